-- Sound nodes: what an answer for the tree says of the slots, and that adding and discarding keep them sound.
-- The tree holds every key that has a number, so its order tells that no key has two, its height is within the count of
-- the nodes, and what holds in the tree holds in the slots. An added key's node is outside the tree and so does not
-- disturb it; a discarded key's node is outside the tree that is left.
use Rattle.std.proofs.Common.{◌≡◌, ℕ, suc, ◌+◌, ◌-◌, ◌<◌, ◌≤◌, min, List, length, set, replicate, Some, None, Option, Ordering, sym, refl, ap, ◌∙◌, subst, ⊎_elim, arith}
use lib.LanesLaws.{map-replicate}
use Rattle.std.proofs.lemmas.Option.{slice_get_within}
use Rattle.index.proofs.Nth.{nth_set_other, nth_set_same}
use Rattle.index.proofs.Orders.{same_or_not}
use Rattle.index.proofs.Slots.{count_empty, count_fewer, count_more, count_within, empty_new, maps_cleared, maps_set, number_new, one_key}
use Rattle.index.specs.Slots.{Apart, Maps, count_of, empty, number_of}
use Rattle.keys.specs.Orders.{Total}
use Rattle.std.proofs.Math.Logic.{∥∥₁_elim}
use Rattle.std.specs.Coded.{Coded-set, coded_ℕ, le_prop}
use Rattle.std.proofs.lemmas.List.{length-replicate, length-set}
use Rattle.std.specs.List.{slice_get}
use Rattle.tree_index.proofs.Layouts.{height_within, in_maps, lies_kept, stands_once}
use Rattle.tree_index.proofs.Nodes.{keys_set, same_length, slots_long, slots_whole}
use Rattle.tree_index.specs.declared.node.Node.{Node}
use Rattle.tree_index.specs.declared.root.Root.{Root}
use Rattle.tree_index.specs.Changes.{Becomes, Fresh, Inserts, Removes}
use Rattle.tree_index.specs.Layouts.{Fits, Sound}
use Rattle.tree_index.specs.Links.{max_keys}
use Rattle.tree_index.specs.Nodes.{childless, keys, slots_in}
use Rattle.tree_index.specs.Trees.{In, height, leaf}

module _ {K : Type 0} (order : K → K → Ordering) (total : Total order) where
  -- nodes without a key
  module _ (nodes : List (Node K)) (n : ℕ) (is : nodes ≡ replicate n (childless None)) (few : n ≤ max_keys) where
    empty_room : length nodes ≤ max_keys
    empty_room = let long : length nodes ≡ n = ap length is ∙ length-replicate n (childless None) in omega arith

    pub empty_slots : slots_in nodes ≡ empty n
    empty_slots = slots_whole nodes empty_room ∙ ap keys is ∙ map-replicate (λ (node : Node K). node.key) n (childless None)

    pub empty_sound : Sound order nodes (record { link = None; count = 0 })
    empty_sound =
        record {
          tree = leaf;
          lies = refl;
          ordered = tt;
          all = λ m key h. empty_new n key m (subst (λ (slots : List (Option K)). Maps slots m key) empty_slots h);
          counted = sym (ap count_of empty_slots ∙ count_empty K n);
          room = empty_room;
        }

  module _ (nodes : List (Node K)) (root : Root) (s : Sound order nodes root) where
    pub tree_maps : (n : ℕ) (key : K) → In s.tree n key → Maps (slots_in nodes) n key
    tree_maps n key i = subst (λ (slots : List (Option K)). Maps slots n key) (sym (slots_whole nodes s.room)) (in_maps nodes root.link s.tree n key s.lies i)

    pub sound_fits : Fits order nodes root.link s.tree (length nodes)
    sound_fits =
        let low : height s.tree ≤ count_of (slots_in nodes) = height_within order total (slots_in nodes) s.tree s.ordered tree_maps in
        let few : count_of (slots_in nodes) ≤ length (slots_in nodes) = count_within (slots_in nodes) in
        record { lies = s.lies; ordered = s.ordered; low = omega (arith, slots_long nodes s.room) }

    pub sound_apart : Apart (slots_in nodes)
    sound_apart m n key a b = stands_once order total s.tree s.ordered m n key (s.all m key a) (s.all n key b)

  -- the tree is not told, but what is the same for every tree is known of sound nodes
  module _ (nodes : List (Node K)) (root : Root) (sound : ∥ Sound order nodes root ∥₁) where
    pub held_room : length nodes ≤ max_keys
    held_room = ∥∥₁_elim sound le_prop (λ s. s.room)

    pub held_apart : Apart (slots_in nodes)
    held_apart m n key a b = ∥∥₁_elim sound (Coded-set coded_ℕ m n) (λ s. sound_apart nodes root s m n key a b)

  -- a key is added: its node is put, and then linked into the tree
  module _ (before mid after : List (Node K)) (root next : Root) (new link : Option ℕ) (key : K) (number : ℕ) (s : Sound order before root)
      (unused : slice_get (slots_in before) number ≡ Some None) (unknown : None ≡ number_of order (slots_in before) key)
      (put : mid ≡ set before number (childless (Some key))) (is_new : number < 65536 → new ≡ Some number) (inserts : Inserts order mid after root.link key new (length before) link)
      (is_next : next ≡ record { link = link; count = min (root.count + 1) max_keys }) where
    within : number < length before
    within = let h : number < length (slots_in before) = slice_get_within (slots_in before) number None unused in omega (arith, slots_long before s.room)

    new_is : new ≡ Some number
    new_is = let room : length before ≤ max_keys = s.room in is_new (omega (arith, within))

    long : length mid ≡ length before
    long = ap length put ∙ length-set before number (childless (Some key))

    fresh : Fresh mid new key
    fresh = (number, new_is, ap (λ (nodes : List (Node K)). slice_get nodes number) put ∙ nth_set_same before number (childless (Some key)) within)

    new_key : (n : ℕ) → Maps (slots_in before) n key → ⊥
    new_key = number_new order total (slots_in before) key (sound_apart before root s) unknown

    -- the node of the number is free, so it is not in the tree
    not_number : (n : ℕ) (k : K) → In s.tree n k → n ≡ number → ⊥
    not_number n k i e =
        let there : slice_get (slots_in before) n ≡ Some (Some k) = tree_maps before root s n k i in
        cc

    fits : Fits order mid root.link s.tree (length before)
    fits =
        let f = sound_fits before root s in
        record {
          lies = lies_kept before mid root.link s.tree s.lies (λ n k i. ap (λ (nodes : List (Node K)). slice_get nodes n) put ∙ nth_set_other before number n (childless (Some key)) (not_number n k i));
          ordered = f.ordered;
          low = f.low;
        }

    b : Becomes order mid after s.tree link key (Some number)
    b = subst (λ (n : Option ℕ). Becomes order mid after s.tree link key n) new_is (inserts fresh s.tree fits (λ n i. new_key n (tree_maps before root s n key i)))

    room_after : length after ≤ max_keys
    room_after = let room : length before ≤ max_keys = s.room in let same : length after ≡ length mid = same_length mid after b.same_keys in omega (arith, long)

    pub added_slots : slots_in after ≡ set (slots_in before) number (Some key)
    added_slots =
        slots_whole after room_after ∙ b.same_keys ∙ ap keys put ∙ keys_set before number (childless (Some key))
        ∙ ap (λ (slots : List (Option K)). set slots number (Some key)) (sym (slots_whole before s.room))

    counts : count_of (slots_in after) ≡ suc (count_of (slots_in before))
    counts = ap count_of added_slots ∙ count_more (slots_in before) number key unused

    added_counted : min (root.count + 1) max_keys ≡ count_of (slots_in after)
    added_counted =
        let few : count_of (slots_in after) ≤ length (slots_in after) = count_within (slots_in after) in
        let same : length (slots_in after) ≡ length after = slots_long after room_after in
        let counted : root.count ≡ count_of (slots_in before) = s.counted in omega (arith, counts, room_after)

    pub added_sound : Sound order after next
    added_sound = subst (Sound order after) (sym is_next)
        (record {
          tree = b.tree;
          lies = b.lies;
          ordered = b.ordered;
          all = λ n k h. ⊎_elim
              (λ q. subst (λ (m : ℕ). In b.tree m k) (sym q.0) (subst (In b.tree number) (sym q.1) ((b.here number).1 refl)))
              (λ q. (b.others n k (λ e. new_key n (subst (Maps (slots_in before) n) (sym e) q.1))).1 (s.all n k q.1))
              (maps_set (slots_in before) number n key k unused (subst (λ (slots : List (Option K)). Maps slots n k) added_slots h));
          counted = added_counted;
          room = room_after;
        })

  -- a key is discarded: its node is unlinked from the tree, and then freed
  module _ (before mid after : List (Node K)) (root next : Root) (link : Option ℕ) (key : K) (number : ℕ) (s : Sound order before root) (has : Maps (slots_in before) number key)
      (put : after ≡ set mid number (childless None)) (removes : Removes order before mid root.link key (length before) link)
      (is_next : next ≡ record { link = link; count = root.count - 1 }) where
    c : Becomes order before mid s.tree link key None
    c = removes s.tree (sound_fits before root s)

    left_long : length after ≡ length mid
    left_long = ap length put ∙ length-set mid number (childless None)

    left_room : length after ≤ max_keys
    left_room = let room : length before ≤ max_keys = s.room in let same : length mid ≡ length before = same_length before mid c.same_keys in omega (arith, left_long)

    -- what is left in the tree has another key, and so another node
    left_other : (n : ℕ) (k : K) → In c.tree n k → n ≡ number → ⊥
    left_other n k i e = ⊎_elim
        (λ same. let never : None ≡ Some n = (c.here n).0 (subst (In c.tree n) (sym same) i) in cc)
        (λ ne. ne (one_key (slots_in before) n key k (subst (λ (m : ℕ). Maps (slots_in before) m key) (sym e) has) (tree_maps before root s n k ((c.others n k ne).0 i))))
        (same_or_not order total key k)

    pub discarded_slots : slots_in after ≡ set (slots_in before) number None
    discarded_slots =
        slots_whole after left_room ∙ ap keys put ∙ keys_set mid number (childless None)
        ∙ ap (λ (slots : List (Option K)). set slots number None) (c.same_keys ∙ sym (slots_whole before s.room))

    pub discarded_sound : (after_s : Sound order after next) × (height after_s.tree ≤ height s.tree)
    unfolding c
    discarded_sound = subst (λ (r : Root). (after_s : Sound order after r) × (height after_s.tree ≤ height s.tree)) (sym is_next) (
      record {
        tree = c.tree;
        lies = lies_kept mid after link c.tree c.lies (λ n k i. ap (λ (nodes : List (Node K)). slice_get nodes n) put ∙ nth_set_other mid number n (childless None) (left_other n k i));
        ordered = c.ordered;
        all = λ n k h.
            let q = maps_cleared (slots_in before) number n k (subst (λ (slots : List (Option K)). Maps slots n k) discarded_slots h) in
            (c.others n k (λ e. q.1 (sound_apart before root s n number k q.0 (subst (Maps (slots_in before) number) e has)))).1 (s.all n k q.0);
        counted = let fewer : suc (count_of (set (slots_in before) number None)) ≡ count_of (slots_in before) = count_fewer (slots_in before) number key has in
            let counted_before : root.count ≡ count_of (slots_in before) = s.counted in
            let counted_after : count_of (slots_in after) ≡ count_of (set (slots_in before) number None) = ap count_of discarded_slots in omega arith;
        room = left_room;
      },
      c.no_higher refl,
    )
