-- How a tree lies in nodes. What stands in it has its key there, and it lies on where its nodes stay as they are.
-- A tree in order is no higher than there are keys: the root's place holds a key that no part has, so each part lies in
-- slots with one key fewer. What a link leads to tells which trees can lie there: none but the empty one where it leads to
-- no node with a key, and forks with the node's number and key where it leads to a node.
use Rattle.std.proofs.Common.{◌≡◌, ℕ, suc, ◌≤◌, List, set, Some, None, Option, Ordering, sym, refl, ap, ◌∙◌, subst, inl, inr, arith}
use Rattle.index.proofs.Nth.{nth_map, nth_set_other}
use Rattle.index.proofs.Slots.{count_fewer, one_key}
use Rattle.index.specs.Slots.{Maps, count_of}
use Rattle.keys.specs.Orders.{Total}
use Rattle.std.specs.List.{slice_get}
use Rattle.tree_index.proofs.Links.{one_side, side_apart}
use Rattle.tree_index.proofs.Nodes.{same_key, same_node}
use Rattle.tree_index.specs.declared.link.Links.{Links}
use Rattle.tree_index.specs.declared.link.Side.{Side}
use Rattle.tree_index.specs.declared.link.Side.TheVariants.{Left, Right}
use Rattle.tree_index.specs.declared.node.Found.{Found}
use Rattle.tree_index.specs.declared.node.Node.{Node}
use Rattle.tree_index.specs.Layouts.{EachTreeAt, Lies}
use Rattle.tree_index.specs.Links.{child}
use Rattle.tree_index.specs.Nodes.{Leads, keys}
use Rattle.tree_index.specs.Trees.{In, Ordered, Tree, fork, height, leaf}

pub lies_kept : {K : Type 0} (before after : List (Node K)) (at : Option ℕ) (t : Tree K) → Lies before at t →
    ((n : ℕ) (k : K) → In t n k → slice_get after n ≡ slice_get before n) → Lies after at t
lies_kept before after at leaf lies same = lies
lies_kept before after at (fork parts n k) lies same = (
  lies.0,
  lies.1,
  same n k (inl (refl, refl)) ∙ lies.2,
  (λ side. lies_kept before after (child lies.1 side) (parts side) (lies.3 side) (λ m x i. same m x (inr (side, i)))),
)

pub in_maps : {K : Type 0} (nodes : List (Node K)) (at : Option ℕ) (t : Tree K) (n : ℕ) (k : K) → Lies nodes at t → In t n k → Maps (keys nodes) n k
in_maps nodes at leaf n k lies = λ i. absurd i
in_maps {K} nodes at (fork parts m x) n k lies = elim [
  | inl q ↦
      (let there : slice_get (keys nodes) m ≡ Some (Some x) = nth_map (λ (node : Node K). node.key) nodes m _ lies.2 in
      let place : m ≡ n = q.0 in
      let key : x ≡ k = q.1 in cc)
  | inr p ↦ in_maps nodes (child lies.1 p.0) (parts p.0) n k (lies.3 p.0) p.1
]

pub part_lower : {K : Type 0} (parts : Side → Tree K) (n : ℕ) (k : K) (side : Side) → suc (height (parts side)) ≤ height (fork parts n k)
part_lower parts n k Left = omega arith
part_lower parts n k Right = omega arith

module _ {K : Type 0} (order : K → K → Ordering) (total : Total order) where
  pub height_within : (slots : List (Option K)) (t : Tree K) → Ordered order t → ((n : ℕ) (k : K) → In t n k → Maps slots n k) → height t ≤ count_of slots
  height_within slots leaf o maps = omega arith
  height_within slots (fork parts n k) o maps =
      let fewer : suc (count_of (set slots n None)) ≡ count_of slots = count_fewer slots n k own in
      let left : height (parts Left) ≤ count_of (set slots n None) = height_within (set slots n None) (parts Left) (o Left).1 (part Left) in
      let right : height (parts Right) ≤ count_of (set slots n None) = height_within (set slots n None) (parts Right) (o Right).1 (part Right) in
      omega arith
    where
      own : Maps slots n k
      own = maps n k (inl (refl, refl))

      part : (side : Side) (m : ℕ) (x : K) → In (parts side) m x → Maps (set slots n None) m x
      part side m x i =
          nth_set_other slots n m None
          (λ e. side_apart order total side x k ((o side).0 m x i) (one_key slots n x k (subst (λ (j : ℕ). Maps slots j x) e (maps m x (inr (side, i)))) own))
          ∙ maps m x (inr (side, i))

  -- no key stands twice in a tree in order
  pub stands_once : (t : Tree K) → Ordered order t → (m n : ℕ) (k : K) → In t m k → In t n k → m ≡ n
  stands_once leaf o m n k = λ i j. absurd i
  stands_once (fork parts p x) o m n k = elim [
    | inl q ↦ elim [ inl w ↦ sym q.0 ∙ w.0 | inr w ↦ absurd (side_apart order total w.0 k x ((o w.0).0 n k w.1) (sym q.1)) ]
    | inr q ↦ elim [
      | inl w ↦ absurd (side_apart order total q.0 k x ((o q.0).0 m k q.1) (sym w.1))
      | inr w ↦
          stands_once (parts w.0) (o w.0).1 m n k
          (subst (λ (s : Side). In (parts s) m k) (one_side order total q.0 w.0 k x ((o q.0).0 m k q.1) ((o w.0).0 n k w.1)) q.1) w.1
    ]
  ]

leaf_there : {K : Type 0} (nodes : List (Node K)) (at : Option ℕ) (t : Tree K) → Leads nodes at None → Lies nodes at t → t ≡ leaf
leaf_there nodes at leaf leads lies = refl
leaf_there nodes at (fork parts n k) leads lies = absurd (leads n k lies.1 lies.0 lies.2)

fork_there : {K : Type 0} (nodes : List (Node K)) (at : Option ℕ) (found : Found K) (t : Tree K) → Leads nodes at (Some found) → Lies nodes at t →
    (parts : Side → Tree K) × (t ≡ fork parts found.place found.key) × ((side : Side) → Lies nodes (child found.links side) (parts side))
fork_there nodes at found leaf leads lies = let led : at ≡ Some found.place = leads.0 in absurd cc
fork_there {K} nodes at found (fork parts n k) leads lies =
    let led : at ≡ Some found.place = leads.0 in
    let lain : at ≡ Some n = lies.0 in
    let place : n ≡ found.place = cc in
    let there : slice_get nodes n ≡ Some (record { key = Some found.key; links = found.links }) = ap (slice_get nodes) place ∙ leads.1 in
    let key : k ≡ found.key = same_key nodes n _ _ k found.key lies.2 there refl refl in
    let links : lies.1 ≡ found.links = ap (λ (x : Node K). x.links) (same_node nodes n _ _ lies.2 there) in
    (parts, cc, λ side. subst (λ (l : Links). Lies nodes (child l side) (parts side)) links (lies.3 side))

module _ {K : Type 0} (order : K → K → Ordering) (nodes : List (Node K)) (at : Option ℕ) (depth : ℕ) (So : Tree K → Type 0) where
  -- where the link leads to a node, what is so of forks is so of every tree that fits
  pub at_fork : (found : Found K) → Leads nodes at (Some found) →
      ((parts : Side → Tree K) → Ordered order (fork parts found.place found.key) → ((side : Side) → Lies nodes (child found.links side) (parts side)) →
      height (fork parts found.place found.key) ≤ depth → So (fork parts found.place found.key)) →
      EachTreeAt order nodes at depth So
  at_fork found leads step t fits =
      let q = fork_there nodes at found t leads fits.lies in
      let P : Tree K → Type 0 = λ u. Ordered order u → height u ≤ depth → So u in
      subst P (sym q.1) (λ o low. step q.0 o q.2 low) fits.ordered fits.low

  -- and no tree fits there with no node on a way down
  pub too_deep : (found : Found K) → Leads nodes at (Some found) → depth ≡ 0 → EachTreeAt order nodes at depth So
  too_deep found leads z = at_fork found leads (λ parts o lies low. absurd (omega arith))

  -- where the link leads to no node, what is so of the empty tree is so of every tree that fits
  pub at_leaf : Leads nodes at None → (at ≡ None → So leaf) → EachTreeAt order nodes at depth So
  at_leaf leads empty t fits =
      let P : Tree K → Type 0 = λ u. Lies nodes at u → So u in
      subst P (sym (leaf_there nodes at t leads fits.lies)) empty fits.lies
