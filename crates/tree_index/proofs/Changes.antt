-- Why inserting and removing do what they should. Both change one part of a fork and relink the fork's node to it
-- (`part_becomes`): the key belongs on the side of that part, so the fork stays in order; the node of the fork stands in
-- neither part, and no place stands in both, since a place has one key and a key belongs on one side. So the other part
-- lies as it did. Removing the key of a fork brings up the least node of its right part (`least_comes_up`), which is
-- greater than all on the left and less than what is left on the right.
use Rattle.std.proofs.Common.{◌≡◌, ℕ, suc, ◌≤◌, ◌⊎◌, List, Some, None, Option, Ordering, sym, refl, ap, ◌∙◌, subst, inl, inr, ⊎_elim, arith}
use Rattle.index.proofs.Nth.{nth_map, nth_unmap}
use Rattle.index.proofs.Orders.{same_or_not}
use Rattle.index.proofs.Slots.{one_key}
use Rattle.index.specs.Slots.{Maps}
use Rattle.keys.specs.Orders.{Total}
use Rattle.tree_index.proofs.Layouts.{in_maps, lies_kept, part_lower, stands_once}
use Rattle.tree_index.proofs.Nodes.{keys_relinked, relinked_other, relinked_same}
use Rattle.tree_index.proofs.Links.{each_part, new_part, one_side, same_side, side_apart, with_part}
use Rattle.tree_index.specs.declared.link.Links.{Links}
use Rattle.tree_index.specs.declared.link.Side.{Side}
use Rattle.tree_index.specs.declared.link.Side.TheVariants.{Left, Right}
use Rattle.tree_index.specs.declared.node.Node.{Node}
use Rattle.tree_index.specs.declared.remove.Min.{Min}
use Rattle.tree_index.specs.Links.{child, with_child}
use Rattle.tree_index.specs.Changes.{Becomes, Fresh, LosesMin}
use Rattle.tree_index.specs.Layouts.{Lies}
use Rattle.tree_index.specs.Nodes.{childless, keys, relinked}
use Rattle.tree_index.specs.Trees.{In, On, Ordered, Tree, fork, height, leaf}
use Rattle.std.specs.List.{slice_get}

no_child : (side : Side) → child (record { left = None; right = None }) side ≡ None
no_child Left = refl
no_child Right = refl

module _ {K : Type 0} (order : K → K → Ordering) (total : Total order) where
  -- the new node alone, where the tree was empty
  pub new_leaf : (nodes : List (Node K)) (new : Option ℕ) (key : K) → Fresh nodes new key → Becomes order nodes nodes leaf new key new
  new_leaf nodes new key fresh =
      record {
        tree = fork (λ side. leaf) fresh.0 key;
        lies = (fresh.1, (childless (Some key)).links, fresh.2, no_child);
        ordered = λ side. ((λ n k i. absurd i), tt);
        here = λ n. (elim [ inl q ↦ fresh.1 ∙ ap Some q.0 | inr p ↦ absurd p.1 ], λ e. let led : new ≡ Some fresh.0 = fresh.1 in let place : fresh.0 ≡ n = cc in inl (place, refl));
        others = λ n k ne. (elim [ inl q ↦ absurd (ne q.1) | inr p ↦ absurd p.1 ], λ i. absurd i);
        no_higher = λ e. cc;
        same_keys = refl;
        outside = λ n out. refl;
      }

  -- the empty tree, where the tree was empty
  pub old_leaf : (nodes : List (Node K)) (at : Option ℕ) (key : K) → at ≡ None → Becomes order nodes nodes leaf at key None
  old_leaf nodes at key past =
      record {
        tree = leaf;
        lies = past;
        ordered = tt;
        here = λ n. ((λ i. absurd i), λ e. cc);
        others = λ n k ne. ((λ i. i), λ i. i);
        no_higher = λ e. omega arith;
        same_keys = refl;
        outside = λ n out. refl;
      }

  -- a fork that lies in nodes: its parts at the links of its node
  module _ (before : List (Node K)) (links : Links) (parts : Side → Tree K) (place : ℕ) (key : K) (o : Ordered order (fork parts place key))
      (lies : (side : Side) → Lies before (child links side) (parts side)) where
    part_maps : (side : Side) (n : ℕ) (k : K) → In (parts side) n k → Maps (keys before) n k
    part_maps side n k i = in_maps before (child links side) (parts side) n k (lies side) i

    -- a place stands in one part at most
    one_part : (s side : Side) (n : ℕ) (j k : K) → In (parts s) n j → In (parts side) n k → s ≡ side
    one_part s side n j k a b =
        let same : j ≡ k = one_key (keys before) n j k (part_maps s n j a) (part_maps side n k b) in
        one_side order total s side k key (subst (λ (x : K). On order s x key) same ((o s).0 n j a)) ((o side).0 n k b)

    -- what stands in the parts with one of them changed
    module _ (side : Side) (t : Tree K) (n : ℕ) (k : K) where
      from_changed : (s : Side) → In (with_part parts side t s) n k → In t n k ⊎ ((s ≡ side → ⊥) × In (parts s) n k)
      from_changed s = each_part (λ s l u. In u n k → In t n k ⊎ ((s ≡ side → ⊥) × In (parts s) n k)) links parts side links.left t inl (λ s ne i. inr (ne, i)) s

      to_new : In t n k → In (with_part parts side t side) n k
      to_new i = subst (λ (u : Tree K). In u n k) (new_part parts side t) i

      to_changed : (In (parts side) n k → In t n k) → (s : Side) → In (parts s) n k → In (with_part parts side t s) n k
      to_changed f s = each_part (λ s l u. In (parts s) n k → In u n k) links parts side links.left t f (λ s ne i. i) s

    own_key : (side : Side) (n : ℕ) → In (parts side) n key → ⊥
    own_key side n i = side_apart order total side key key ((o side).0 n key i) refl

    -- one part alone, where the other is empty
    pub part_alone : (side : Side) → ((s : Side) → (s ≡ side → ⊥) → parts s ≡ leaf) → Becomes order before before (fork parts place key) (child links side) key None
    part_alone side empty =
        record {
          tree = parts side;
          lies = lies side;
          ordered = (o side).1;
          here = λ n. ((λ i. absurd (own_key side n i)), λ e. cc);
          others = λ n k ne. ((λ i. inr (side, i)), elim [ inl q ↦ absurd (ne q.1) | inr p ↦ there n k p.0 p.1 ]);
          no_higher = λ e. let lower : suc (height (parts side)) ≤ height (fork parts place key) = part_lower parts place key side in omega arith;
          same_keys = refl;
          outside = λ n out. refl;
        }
      where
        there : (n : ℕ) (k : K) (s : Side) → In (parts s) n k → In (parts side) n k
        there n k s i = ⊎_elim (λ e. subst (λ (x : Side). In (parts x) n k) e i) (λ ne. absurd (subst (λ (u : Tree K). In u n k) (empty s ne) i)) (same_side s side)

    -- the least node of the right part comes up in the place of the fork's node
    pub least_comes_up : (mid after : List (Node K)) (least : Min) → after ≡ relinked mid least.place (with_child links Right least.rest) →
        LosesMin order before mid (Some least) (parts Right) → Becomes order before after (fork parts place key) (Some least.place) key None
    least_comes_up mid after least is takes =
        subst (λ (nodes : List (Node K)). Becomes order before nodes (fork parts place key) (Some least.place) key None) (sym is)
        (record {
          tree = fork (with_part parts Right b.tree) m top;
          lies = (refl, with_child links Right least.rest, relinked_same mid m _ _ node.1 ∙ ap (λ (x : Option K). Some (record { key = x; links = with_child links Right least.rest })) node.2, each_part (λ s l u. Lies result l u) links parts Right least.rest b.tree new_lies old_lies);
          ordered = each_part (λ s l u. ((n : ℕ) (k : K) → In u n k → On order s k top) × Ordered order u) links parts Right least.rest b.tree (above, b.ordered) (λ s ne. (below s ne, (o s).1));
          here = λ n. (
            elim [
              | inl q ↦ absurd (side_apart order total Right top key ((o Right).0 m top at_top) q.1)
              | inr p ↦ ⊎_elim (λ i. absurd (own_key Right n ((b.others n key (λ e. side_apart order total Right top key ((o Right).0 m top at_top) e)).0 i))) (λ q. absurd (own_key p.0 n q.1)) (from_changed Right b.tree n key p.0 p.1)
            ],
            λ e. cc,
          );
          others = λ n k ne. (
            elim [
              | inl q ↦ inr (Right, subst (λ (j : ℕ). In (parts Right) j k) q.0 (subst (λ (x : K). In (parts Right) m x) q.1 at_top))
              | inr p ↦ ⊎_elim (λ i. inr (Right, from_rest n k i)) (λ q. inr (p.0, q.1)) (from_changed Right b.tree n k p.0 p.1)
            ],
            elim [ inl q ↦ absurd (ne q.1) | inr p ↦ stays n k p.0 p.1 ],
          );
          no_higher = λ e. let lower : height b.tree ≤ height (parts Right) = b.no_higher refl in omega arith;
          same_keys = keys_relinked mid m _ ∙ b.same_keys;
          outside = λ n out. relinked_other mid m n _ (λ e. out top (inr (Right, subst (λ (j : ℕ). In (parts Right) j top) (sym e) at_top))) ∙ b.outside n (λ k i. out k (inr (Right, i)));
        })
      where
        m : ℕ
        m = least.place

        top : K
        top = takes.0

        at_top : In (parts Right) m top
        at_top = takes.1

        b : Becomes order before mid (parts Right) least.rest top None
        b = takes.3

        result : List (Node K)
        result = relinked mid m (with_child links Right least.rest)

        -- the node has the key that it had
        node : (x : Node K) × (slice_get mid m ≡ Some x) × (x.key ≡ Some top)
        node = nth_unmap (λ (x : Node K). x.key) mid m (Some top) (ap (λ (ks : List (Option K)). slice_get ks m) b.same_keys ∙ part_maps Right m top at_top)

        -- what is left of the right part was there, and has another key
        not_top : (n : ℕ) (k : K) → In b.tree n k → top ≡ k → ⊥
        not_top n k i e = let never : None ≡ Some n = (b.here n).0 (subst (λ (x : K). In b.tree n x) (sym e) i) in cc

        from_rest : (n : ℕ) (k : K) → In b.tree n k → In (parts Right) n k
        from_rest n k i = (b.others n k (not_top n k i)).0 i

        above : (n : ℕ) (k : K) → In b.tree n k → On order Right k top
        above n k i = takes.2 n k (from_rest n k i) (not_top n k i)

        below : (s : Side) → (s ≡ Right → ⊥) → (n : ℕ) (k : K) → In (parts s) n k → On order s k top
        below Left ne n k i = total.passes k key top ((o Left).0 n k i) ((o Right).0 m top at_top)
        below Right ne n k i = absurd (ne refl)

        stays : (n : ℕ) (k : K) (s : Side) → In (parts s) n k → In (fork (with_part parts Right b.tree) m top) n k
        stays n k s i = ⊎_elim
            (λ e. inl (stands_once order total (fork parts place key) o m n k (inr (Right, subst (λ (x : K). In (parts Right) m x) e at_top)) (inr (s, i)), e))
            (λ ne. inr (s, to_changed Right b.tree n k (b.others n k ne).1 s i)) (same_or_not order total top k)

        new_lies : Lies result least.rest b.tree
        new_lies = lies_kept mid result least.rest b.tree b.lies
            (λ n k i. relinked_other mid m n _
            (λ e. not_top n k i (one_key (keys before) n top k (subst (λ (j : ℕ). Maps (keys before) j top) (sym e) (part_maps Right m top at_top)) (part_maps Right n k (from_rest n k i)))))

        old_lies : (s : Side) → (s ≡ Right → ⊥) → Lies result (child links s) (parts s)
        old_lies s ne = lies_kept before result (child links s) (parts s) (lies s)
            (λ n k i. relinked_other mid m n _ (λ e. ne (one_part s Right m k top (subst (λ (j : ℕ). In (parts s) j k) e i) at_top)) ∙ b.outside n (λ j w. ne (one_part s Right n k j i w)))

    -- the place of the fork's node stands in no part
    module _ (there : slice_get before place ≡ Some (record { key = Some key; links = links })) where
      own_place : (side : Side) (k : K) → In (parts side) place k → ⊥
      own_place side k i =
          let own : Maps (keys before) place key = nth_map (λ (x : Node K). x.key) before place _ there in
          side_apart order total side k key ((o side).0 place k i) (one_key (keys before) place k key (part_maps side place k i) own)

      -- one part becomes another, and the node is relinked
      pub part_becomes : (mid after : List (Node K)) (at link : Option ℕ) (side : Side) (new : K) (number : Option ℕ) →
          at ≡ Some place → On order side new key → (number ≡ Some place → ⊥) → after ≡ relinked mid place (with_child links side link) →
          Becomes order before mid (parts side) link new number → Becomes order before after (fork parts place key) at new number
      part_becomes mid after at link side new number leads on apart is b =
          subst (λ (nodes : List (Node K)). Becomes order before nodes (fork parts place key) at new number) (sym is)
          (record {
            tree = fork (with_part parts side b.tree) place key;
            lies = (leads, with_child links side link, relinked_same mid place _ _ (b.outside place (own_place side) ∙ there), each_part (λ s l u. Lies result l u) links parts side link b.tree new_lies old_lies);
            ordered = each_part (λ s l u. ((n : ℕ) (k : K) → In u n k → On order s k key) × Ordered order u) links parts side link b.tree (new_on, b.ordered) (λ s ne. o s);
            here = λ n. (
              elim [
                | inl q ↦ absurd (side_apart order total side new key on (sym q.1))
                | inr p ↦ ⊎_elim (λ i. (b.here n).0 i) (λ q. absurd (q.0 (one_side order total p.0 side new key ((o p.0).0 n new q.1) on))) (from_changed side b.tree n new p.0 p.1)
              ],
              λ e. inr (side, to_new side b.tree n new ((b.here n).1 e)),
            );
            others = λ n k ne. (
              elim [
                | inl q ↦ inl q
                | inr p ↦ ⊎_elim (λ i. inr (side, (b.others n k ne).0 i)) (λ q. inr (p.0, q.1)) (from_changed side b.tree n k p.0 p.1)
              ],
              elim [ inl q ↦ inl q | inr p ↦ inr (p.0, to_changed side b.tree n k (b.others n k ne).1 p.0 p.1) ],
            );
            no_higher = λ e. part_changed side (b.no_higher e);
            same_keys = keys_relinked mid place _ ∙ b.same_keys;
            outside = λ n out. relinked_other mid place n _ (λ e. out key (inl (sym e, refl))) ∙ b.outside n (λ k i. out k (inr (side, i)));
          })
        where
          result : List (Node K)
          result = relinked mid place (with_child links side link)

          part_changed : (s : Side) → height b.tree ≤ height (parts s) → height (fork (with_part parts s b.tree) place key) ≤ height (fork parts place key)
          part_changed Left h = omega arith
          part_changed Right h = omega arith

          new_on : (n : ℕ) (k : K) → In b.tree n k → On order side k key
          new_on n k i = ⊎_elim (λ e. subst (λ (x : K). On order side x key) e on) (λ ne. (o side).0 n k ((b.others n k ne).0 i)) (same_or_not order total new k)

          new_place : (k : K) → In b.tree place k → ⊥
          new_place k i = ⊎_elim (λ e. apart ((b.here place).0 (subst (λ (x : K). In b.tree place x) (sym e) i))) (λ ne. own_place side k ((b.others place k ne).0 i)) (same_or_not order total new k)

          new_lies : Lies result link b.tree
          new_lies = lies_kept mid result link b.tree b.lies (λ n k i. relinked_other mid place n _ (λ e. new_place k (subst (λ (m : ℕ). In b.tree m k) e i)))

          old_lies : (s : Side) → (s ≡ side → ⊥) → Lies result (child links s) (parts s)
          old_lies s ne = lies_kept before result (child links s) (parts s) (lies s)
              (λ n k i. relinked_other mid place n _ (λ e. own_place s k (subst (λ (m : ℕ). In (parts s) m k) e i)) ∙ b.outside n (λ j w. ne (one_part s side n k j i w)))

      -- the least node of the fork is that of its left part
      pub least_further : (mid after : List (Node K)) (at : Option ℕ) (least : Min) → at ≡ Some place → after ≡ relinked mid place (with_child links Left least.rest) →
          LosesMin order before mid (Some least) (parts Left) → LosesMin order before after (Some (record { place = least.place; rest = at })) (fork parts place key)
      least_further mid after at least leads is takes = (
        takes.0,
        inr (Left, takes.1),
        (λ n k. elim [ inl q ↦ λ ne. subst (λ (x : K). On order Left takes.0 x) q.1 lower | inr p ↦ lowest n k p.0 p.1 ]),
        part_becomes mid after at least.rest Left takes.0 None leads lower (λ e. cc) is takes.3,
      )
        where
          lower : On order Left takes.0 key
          lower = (o Left).0 least.place takes.0 takes.1

          lowest : (n : ℕ) (k : K) (s : Side) → In (parts s) n k → (takes.0 ≡ k → ⊥) → On order Left takes.0 k
          lowest n k Left i ne = takes.2 n k i ne
          lowest n k Right i ne = total.passes takes.0 key k lower ((o Right).0 n k i)

    -- where the left part is empty, the least node of the fork is its own
    pub least_here : parts Left ≡ leaf → LosesMin order before before (Some (record { place = place; rest = links.right })) (fork parts place key)
    least_here empty = (
      key,
      inl (refl, refl),
      (λ n k. elim [ inl q ↦ λ ne. absurd (ne q.1) | inr p ↦ lowest n k p.0 p.1 ]),
      part_alone Right others_empty,
    )
      where
        lowest : (n : ℕ) (k : K) (s : Side) → In (parts s) n k → (key ≡ k → ⊥) → On order Left key k
        lowest n k Left i ne = absurd (subst (λ (u : Tree K). In u n k) empty i)
        lowest n k Right i ne = (o Right).0 n k i

        others_empty : (s : Side) → (s ≡ Right → ⊥) → parts s ≡ leaf
        others_empty Left ne = empty
        others_empty Right ne = absurd (ne refl)

    pub join_left : parts Right ≡ leaf → Becomes order before before (fork parts place key) links.left key None
    join_left empty = part_alone Left others_empty
      where
        others_empty : (s : Side) → (s ≡ Left → ⊥) → parts s ≡ leaf
        others_empty Left ne = absurd (ne refl)
        others_empty Right ne = empty
