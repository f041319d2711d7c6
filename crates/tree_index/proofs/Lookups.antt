-- Why a lookup answers for the whole tree: on the way down some part of the tree lies at the link, and what answers for
-- the part answers, finished with the best so far, for the tree. Each turn goes from a fork to the part on which the
-- answer must lie, and that part is less high; the way ends at the empty tree, where the answer is none.
use Rattle.std.proofs.Common.{◌≡◌, ℕ, zero, suc, max, ◌<◌, ◌≤◌, List, length, Some, None, Option, Ordering, Less, sym, refl, ap, ◌∙◌, subst, inl, inr, arith}
use Rattle.index.proofs.Leasts.{least_found}
use Rattle.index.proofs.Orders.{less_apart, not_both_less}
use Rattle.index.proofs.Slots.{number_hit, number_miss}
use Rattle.index.specs.Ordered.{Beyond, LeastBeyond, least}
use Rattle.index.specs.Slots.{number_of}
use Rattle.keys.specs.Orders.{Total}
use Rattle.std.proofs.Math.Logic.{∥∥₁_elim}
use Rattle.std.specs.Coded.{Coded, Coded-set, coded_option, coded_ℕ, coded×, le_prop}
use Rattle.tree_index.proofs.Layouts.{at_fork, at_leaf, part_lower}
use Rattle.tree_index.proofs.Links.{none_told, one_side, side_apart, side_told}
use Rattle.tree_index.proofs.Soundness.{sound_apart, sound_fits, tree_maps}
use Rattle.tree_index.specs.declared.link.Side.{Side}
use Rattle.tree_index.specs.declared.link.Side.TheVariants.{Left, Right}
use Rattle.std.specs.List.{slice_get}
use Rattle.tree_index.specs.declared.node.Found.{Found}
use Rattle.tree_index.specs.declared.node.Node.{Node}
use Rattle.tree_index.specs.declared.root.Root.{Root}
use Rattle.tree_index.specs.Layouts.{EachTreeAt, Fits, Lies, Sound}
use Rattle.tree_index.specs.Links.{child, side_of}
use Rattle.tree_index.specs.Nodes.{Leads, slots_in}
use Rattle.tree_index.specs.Trees.{In, On, Ordered, Tree, fork, height, leaf}

-- the answer is the number of the key in the tree, or none where the key is not there
abbrev pub Finds : {K : Type 0} → K → Tree K → Option ℕ → Type 0
Finds key t None = (n : ℕ) → In t n key → ⊥
Finds key t (Some n) = In t n key

-- the answer is the least key of the tree beyond the given one with its number, or none where there is none
abbrev pub LeastIn : {K : Type 0} → (K → K → Ordering) → Option K → Tree K → Option (K × ℕ) → Type 0
LeastIn {K} order given t None = (n : ℕ) (k : K) → In t n k → Beyond order given k → ⊥
LeastIn {K} order given t (Some pair) =
    In t pair.1 pair.0 × Beyond order given pair.0 × ((n : ℕ) (k : K) → In t n k → Beyond order given k → order k pair.0 ≡ Less → ⊥)

-- the first answer, or the second where there is none
abbrev pub or_else : {X : Type 0} → Option X → Option X → Option X
or_else None second = second
or_else (Some x) second = Some x

-- of every tree that fits at the root a part fits at the link, and what answers for the part answers, once finished, for the tree
abbrev pub OnTheWay : {K A : Type 0} → (K → K → Ordering) → List (Node K) → Option ℕ → Option ℕ → (Tree K → A → Type 0) → (A → A) → Type 0
OnTheWay {K} {A} order nodes root at Answers finish =
    EachTreeAt order nodes root (length nodes) (λ t. (part : Tree K) × Fits order nodes at part (length nodes) × ((a : A) → Answers part a → Answers t (finish a)))

-- the node that the link leads to, with a key or without
node_of : {K : Type 0} → List (Node K) → Option ℕ → Option (Node K)
node_of nodes None = None
node_of nodes (Some place) = slice_get nodes place

-- one node and what is below it, or nothing
below : {K : Type 0} → (Option ℕ → ℕ) → Option (Node K) → ℕ
below reach None = 0
below reach (Some node) = suc (max (reach node.links.left) (reach node.links.right))

-- the most nodes on one way down from the link, told by so many steps: what is left of a lookup's way
pub reach : {K : Type 0} → List (Node K) → ℕ → Option ℕ → ℕ
reach nodes zero at = 0
reach nodes (suc steps) at = below (reach nodes steps) (node_of nodes at)

-- by as many steps as a tree is high it is the height of the tree
reach_height : {K : Type 0} (nodes : List (Node K)) (steps : ℕ) (at : Option ℕ) (t : Tree K) → Lies nodes at t → height t ≤ steps → reach nodes steps at ≡ height t
unfolding reach below node_of
reach_height nodes zero at leaf lies low = refl
reach_height nodes (suc steps) at leaf lies low = rw lies
reach_height nodes zero at (fork parts n k) lies low = absurd (omega arith)
reach_height nodes (suc steps) at (fork parts n k) lies low =
    let left : reach nodes steps (child lies.1 Left) ≡ height (parts Left) = reach_height nodes steps (child lies.1 Left) (parts Left) (lies.3 Left) (omega arith) in
    let right : reach nodes steps (child lies.1 Right) ≡ height (parts Right) = reach_height nodes steps (child lies.1 Right) (parts Right) (lies.3 Right) (omega arith) in
    ap (λ (l : Option ℕ). below (reach nodes steps) (node_of nodes l)) lies.0 ∙ ap (below (reach nodes steps)) lies.2 ∙ omega arith

module _ {K : Type 0} (order : K → K → Ordering) where
  -- a turn from a fork to the part on a side
  go_down : {A : Type 0} (Answers : Tree K → A → Type 0) (finish up : A → A) (nodes : List (Node K)) (root at link : Option ℕ) (found : Found K) (side : Side) →
      Leads nodes at (Some found) → link ≡ child found.links side →
      ((parts : Side → Tree K) → Ordered order (fork parts found.place found.key) → (a : A) → Answers (parts side) a → Answers (fork parts found.place found.key) (up a)) →
      OnTheWay order nodes root at Answers finish →
      OnTheWay order nodes root link Answers (λ a. finish (up a))
  go_down {A} Answers finish up nodes root at link found side leads is step way t fits =
      let q = way t fits in
      at_fork order nodes at (length nodes)
      (λ u. ((a : A) → Answers u a → Answers t (finish a)) →
      (part : Tree K) × Fits order nodes link part (length nodes) × ((a : A) → Answers part a → Answers t (finish (up a)))) found leads
      (λ parts o lies low whole. (
        parts side,
        record {
          lies = subst (λ (l : Option ℕ). Lies nodes l (parts side)) (sym is) (lies side);
          ordered = (o side).1;
          low = let part : suc (height (parts side)) ≤ height (fork parts found.place found.key) = part_lower parts found.place found.key side in omega arith;
        },
        (λ a h. whole (up a) (step parts o a h)),
      )) q.0 q.1 q.2

  -- and less of the way is left
  gets_shorter : (nodes : List (Node K)) (at link : Option ℕ) (found : Found K) (side : Side) → Leads nodes at (Some found) → link ≡ child found.links side →
      EachTreeAt order nodes at (length nodes) (λ t. reach nodes (length nodes) link < reach nodes (length nodes) at)
  gets_shorter nodes at link found side leads is t fits =
      at_fork order nodes at (length nodes) (λ u. reach nodes (length nodes) at ≡ height u → reach nodes (length nodes) link < reach nodes (length nodes) at) found leads
      (λ parts o lies low whole.
      let lower : suc (height (parts side)) ≤ height (fork parts found.place found.key) = part_lower parts found.place found.key side in
      let part : reach nodes (length nodes) (child found.links side) ≡ height (parts side) = reach_height nodes (length nodes) (child found.links side) (parts side) (lies side) (omega arith) in
      let same : reach nodes (length nodes) link ≡ reach nodes (length nodes) (child found.links side) = ap (reach nodes (length nodes)) is in omega arith)
      t fits (reach_height nodes (length nodes) at t fits.lies fits.low)

  -- what answers for every tree that fits at the link
  stop_here : {A : Type 0} (Answers : Tree K → A → Type 0) (finish : A → A) (nodes : List (Node K)) (root at : Option ℕ) (a : A) →
      EachTreeAt order nodes at (length nodes) (λ t. Answers t a) → OnTheWay order nodes root at Answers finish → EachTreeAt order nodes root (length nodes) (λ t. Answers t (finish a))
  stop_here Answers finish nodes root at a here way t fits = let q = way t fits in q.2 a (here q.0 q.1)

-- the best so far gives way to one that is found later
best_given_way : {X : Type 0} (x : X) (best a : Option X) → or_else (or_else a (Some x)) best ≡ or_else a (Some x)
best_given_way x best None = refl
best_given_way x best (Some y) = refl

module _ {K : Type 0} (order : K → K → Ordering) (total : Total order) where
  -- a key is found on its side
  find_on_side : (side : Side) (key : K) (parts : Side → Tree K) (n : ℕ) (k : K) → On order side key k → Ordered order (fork parts n k) → (a : Option ℕ) → Finds key (parts side) a → Finds key (fork parts n k) a
  find_on_side side key parts n k on o None h = λ m. elim [
    | inl q ↦ side_apart order total side key k on (sym q.1)
    | inr p ↦ h m (subst (λ (s : Side). In (parts s) m key) (one_side order total p.0 side key k ((o p.0).0 m key p.1) on) p.1)
  ]
  find_on_side side key parts n k on o (Some m) h = inr (side, h)

  -- beyond a bound, greater keys are too
  beyond_up : (given : Option K) (a b : K) → Beyond order given a → order a b ≡ Less → Beyond order given b
  beyond_up None a b p h = tt
  beyond_up (Some bound) a b p h = total.passes bound a b p h

  -- the key of the fork is beyond the bound: the least one is on the left or is that key
  least_on_left : (given : Option K) (parts : Side → Tree K) (n : ℕ) (k : K) → Beyond order given k → Ordered order (fork parts n k) → (a : Option (K × ℕ)) →
      LeastIn order given (parts Left) a → LeastIn order given (fork parts n k) (or_else a (Some (k, n)))
  least_on_left given parts n k beyond o None h = (inl (refl, refl), beyond, λ m x. elim [ inl q ↦ λ b l. less_apart order total x k l (sym q.1) | inr p ↦ below m x p.0 p.1 ])
    where
      below : (m : ℕ) (x : K) (side : Side) → In (parts side) m x → Beyond order given x → order x k ≡ Less → ⊥
      below m x Left i b l = h m x i b
      below m x Right i b l = not_both_less order total x k l ((o Right).0 m x i)
  least_on_left given parts n k beyond o (Some best) h = (
    inr (Left, h.0),
    h.1,
    (λ m x. elim [
      | inl q ↦ λ b l. not_both_less order total best.0 k lower (subst (λ (y : K). order y best.0 ≡ Less) (sym q.1) l)
      | inr p ↦ below m x p.0 p.1
    ]),
  )
    where
      lower : order best.0 k ≡ Less
      lower = (o Left).0 best.1 best.0 h.0

      below : (m : ℕ) (x : K) (side : Side) → In (parts side) m x → Beyond order given x → order x best.0 ≡ Less → ⊥
      below m x Left i b l = h.2 m x i b l
      below m x Right i b l = not_both_less order total x best.0 l (total.passes best.0 k x lower ((o Right).0 m x i))

  -- the key of the fork is not beyond the bound: nor is any on the left
  least_on_right : (given : Option K) (parts : Side → Tree K) (n : ℕ) (k : K) → (Beyond order given k → ⊥) → Ordered order (fork parts n k) → (a : Option (K × ℕ)) →
      LeastIn order given (parts Right) a → LeastIn order given (fork parts n k) a
  least_on_right given parts n k not_beyond o = go
    where
      -- what is beyond the bound is on the right
      right : (m : ℕ) (x : K) → In (fork parts n k) m x → Beyond order given x → In (parts Right) m x
      right m x = elim [ inl q ↦ λ b. absurd (not_beyond (subst (Beyond order given) (sym q.1) b)) | inr p ↦ side p.0 p.1 ]
        where
          side : (s : Side) → In (parts s) m x → Beyond order given x → In (parts Right) m x
          side Left i b = absurd (not_beyond (beyond_up given x k b ((o Left).0 m x i)))
          side Right i b = i

      go : (a : Option (K × ℕ)) → LeastIn order given (parts Right) a → LeastIn order given (fork parts n k) a
      go None h = λ m x i b. h m x (right m x i b) b
      go (Some best) h = (inr (Right, h.0), h.1, λ m x i b l. h.2 m x (right m x i b) b l)

-- the turns and the ends of the two lookups, as the code takes them
module _ {K : Type 0} (order : K → K → Ordering) (total : Total order) (nodes : List (Node K)) (root : Root) (at : Option ℕ) where
  -- each turn leaves less of the way
  pub turns_end : {A : Type 0} (Answers : Tree K → A → Type 0) (finish : A → A) → OnTheWay order nodes root.link at Answers finish →
      (found : Found K) → Leads nodes at (Some found) → (side : Side) (link : Option ℕ) → link ≡ child found.links side → ∥ Sound order nodes root ∥₁ →
      reach nodes (length nodes) link < reach nodes (length nodes) at
  turns_end Answers finish way found leads side link is sound =
      ∥∥₁_elim sound le_prop (λ s. let q = way s.tree (sound_fits order total nodes root s) in gets_shorter order nodes at link found side leads is q.0 q.1)

  module _ (key : K) (way : OnTheWay order nodes root.link at (Finds key) (λ a. a)) where
    pub find_ends : Leads nodes at None → ∥ Sound order nodes root ∥₁ → None ≡ number_of order (slots_in nodes) key
    find_ends leads sound = ∥∥₁_elim sound (Coded-set (coded_option coded_ℕ) _ _) (λ s.
        number_miss order total (slots_in nodes) key (λ n e.
        stop_here order (Finds key) (λ a. a) nodes root.link at None (at_leaf order nodes at (length nodes) (λ t. Finds key t None) leads (λ past n i. i)) way s.tree (sound_fits order total nodes root s) n (s.all n key e)))

    module _ (found : Found K) (leads : Leads nodes at (Some found)) (o : Ordering) (told : o ≡ order key found.key) where
      pub find_finds : None ≡ side_of o → ∥ Sound order nodes root ∥₁ → Some found.place ≡ number_of order (slots_in nodes) key
      find_finds here sound = ∥∥₁_elim sound (Coded-set (coded_option coded_ℕ) _ _) (λ s.
          number_hit order total (slots_in nodes) found.place key (sound_apart order total nodes root s) (tree_maps order total nodes root s found.place key
          (stop_here order (Finds key) (λ a. a) nodes root.link at (Some found.place)
          (at_fork order nodes at (length nodes) (λ t. Finds key t (Some found.place)) found leads
          (λ parts o' lies low. inl (refl, sym (none_told order total key found.key o here told)))) way s.tree (sound_fits order total nodes root s))))

      pub find_turns : (side : Side) (link : Option ℕ) → Some side ≡ side_of o → link ≡ child found.links side → OnTheWay order nodes root.link link (Finds key) (λ a. a)
      find_turns side link on is =
          go_down order (Finds key) (λ a. a) (λ a. a) nodes root.link at link found side leads is
          (λ parts. find_on_side order total side key parts found.place found.key (side_told order total side key found.key o on told)) way

  module _ (given : Option K) (best : Option (K × ℕ)) (way : OnTheWay order nodes root.link at (LeastIn order given) (λ a. or_else a best)) where
    pub least_ends : Coded K → Leads nodes at None → ∥ Sound order nodes root ∥₁ → best ≡ least order given (slots_in nodes)
    least_ends coded leads sound = ∥∥₁_elim sound (Coded-set (coded_option (coded× coded coded_ℕ)) _ _) (λ s. least_found order total given (slots_in nodes) best (sound_apart order total nodes root s) (of_slots s best
        (stop_here order (LeastIn order given) (λ a. or_else a best) nodes root.link at None (at_leaf order nodes at (length nodes) (λ t. LeastIn order given t None) leads (λ past n k i b. i)) way s.tree (sound_fits order total nodes root s))))
      where
        of_slots : (s : Sound order nodes root) (r : Option (K × ℕ)) → LeastIn order given s.tree r → LeastBeyond order given (slots_in nodes) r
        of_slots s None h = λ n k e b. h n k (s.all n k e) b
        of_slots s (Some pair) h = (tree_maps order total nodes root s pair.1 pair.0 h.0, h.1, λ n k e b l. h.2 n k (s.all n k e) b l)

    module _ (found : Found K) (leads : Leads nodes at (Some found)) where
      pub least_left : Beyond order given found.key → OnTheWay order nodes root.link found.links.left (LeastIn order given) (λ a. or_else a (Some (found.key, found.place)))
      least_left beyond t fits =
          let q = go_down order (LeastIn order given) (λ a. or_else a best) (λ a. or_else a (Some (found.key, found.place))) nodes root.link at found.links.left found Left leads refl
          (λ parts. least_on_left order total given parts found.place found.key beyond) way t fits in
          (q.0, q.1, λ a h. subst (LeastIn order given t) (best_given_way (found.key, found.place) best a) (q.2 a h))

      pub least_right : (Beyond order given found.key → ⊥) → OnTheWay order nodes root.link found.links.right (LeastIn order given) (λ a. or_else a best)
      least_right not_beyond =
          go_down order (LeastIn order given) (λ a. or_else a best) (λ a. a) nodes root.link at found.links.right found Right leads refl
          (λ parts. least_on_right order total given parts found.place found.key not_beyond) way
