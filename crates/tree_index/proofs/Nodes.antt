-- Lists of nodes: relinking one node leaves every key and every other node as they were, and the slots of a tree are the
-- keys of its nodes where there are no more nodes than it uses. Each lemma on relinking is an induction over the nodes.
use Rattle.std.proofs.Common.{◌≡◌, ℕ, zero, suc, ◌≤◌, min, List, [], ◌∷◌, length, get_or, take, set, Some, sym, refl, ap, ◌∙◌, arith}
use Rattle.std.proofs.lemmas.List.{length-map, length-take, map-set, take_all}
use Rattle.std.specs.List.{slice_get}
use Rattle.tree_index.specs.declared.link.Links.{Links}
use Rattle.tree_index.specs.declared.node.Node.{Node}
use Rattle.tree_index.specs.Links.{max_keys}
use Rattle.tree_index.specs.Nodes.{keys, relinked, slots_in}

pub relinked_is_set : {K : Type 0} (nodes : List (Node K)) (n : ℕ) (links : Links) (d : Node K) → set nodes n (record { key = (get_or nodes n d).key; links = links }) ≡ relinked nodes n links
relinked_is_set [] n links d = refl
relinked_is_set (x ∷ xs) zero links d = refl
relinked_is_set (x ∷ xs) (suc n) links d = ap (λ ys. x ∷ ys) (relinked_is_set xs n links d)

pub relinked_past : {K : Type 0} (nodes : List (Node K)) (n : ℕ) (links : Links) → length nodes ≤ n → nodes ≡ relinked nodes n links
relinked_past [] n links h = refl
relinked_past (x ∷ xs) zero links h = absurd (omega arith)
relinked_past (x ∷ xs) (suc n) links h = ap (λ ys. x ∷ ys) (relinked_past xs n links (omega arith))

pub relinked_same : {K : Type 0} (nodes : List (Node K)) (n : ℕ) (links : Links) (x : Node K) → slice_get nodes n ≡ Some x → slice_get (relinked nodes n links) n ≡ Some (record { key = x.key; links = links })
relinked_same [] n links x e = cc
relinked_same {K} (y ∷ ys) zero links x e = let h : y ≡ x = cc in ap (λ (z : Node K). Some (record { key = z.key; links = links })) h
relinked_same (y ∷ ys) (suc n) links x e = relinked_same ys n links x e

pub relinked_other : {K : Type 0} (nodes : List (Node K)) (n m : ℕ) (links : Links) → (m ≡ n → ⊥) → slice_get (relinked nodes n links) m ≡ slice_get nodes m
relinked_other [] n m links h = refl
relinked_other (y ∷ ys) zero zero links h = absurd (h refl)
relinked_other (y ∷ ys) zero (suc m) links h = refl
relinked_other (y ∷ ys) (suc n) zero links h = refl
relinked_other (y ∷ ys) (suc n) (suc m) links h = relinked_other ys n m links (λ e. h (ap suc e))

pub keys_relinked : {K : Type 0} (nodes : List (Node K)) (n : ℕ) (links : Links) → keys (relinked nodes n links) ≡ keys nodes
keys_relinked [] n links = refl
keys_relinked (x ∷ xs) zero links = refl
keys_relinked (x ∷ xs) (suc n) links = ap (λ ys. x.key ∷ ys) (keys_relinked xs n links)

pub keys_set : {K : Type 0} (nodes : List (Node K)) (n : ℕ) (node : Node K) → keys (set nodes n node) ≡ set (keys nodes) n node.key
keys_set {K} nodes n node = map-set (λ (x : Node K). x.key) nodes n node

pub length_keys : {K : Type 0} (nodes : List (Node K)) → length (keys nodes) ≡ length nodes
length_keys {K} nodes = length-map nodes (λ (x : Node K). x.key)

-- nodes with the same keys are as many
pub same_length : {K : Type 0} (before after : List (Node K)) → keys after ≡ keys before → length after ≡ length before
same_length before after e = sym (length_keys after) ∙ ap length e ∙ length_keys before

-- two nodes at one place are one
pub same_node : {K : Type 0} (nodes : List (Node K)) (n : ℕ) (x y : Node K) → slice_get nodes n ≡ Some x → slice_get nodes n ≡ Some y → x ≡ y
same_node nodes n x y a b = cc

pub same_key : {K : Type 0} (nodes : List (Node K)) (n : ℕ) (x y : Node K) (j k : K) → slice_get nodes n ≡ Some x → slice_get nodes n ≡ Some y → x.key ≡ Some j → y.key ≡ Some k → j ≡ k
same_key {K} nodes n x y j k a b p q = let keyed : x.key ≡ y.key = ap (λ (z : Node K). z.key) (same_node nodes n x y a b) in cc

pub slots_whole : {K : Type 0} (nodes : List (Node K)) → length nodes ≤ max_keys → slots_in nodes ≡ keys nodes
slots_whole nodes room = ap keys (take_all max_keys nodes room)

pub slots_long : {K : Type 0} (nodes : List (Node K)) → length nodes ≤ max_keys → length (slots_in nodes) ≡ length nodes
slots_long nodes room = ap length (slots_whole nodes room) ∙ length_keys nodes

pub length_slots : {K : Type 0} (nodes : List (Node K)) → length (slots_in nodes) ≡ min max_keys (length nodes)
length_slots nodes = length_keys (take max_keys nodes) ∙ length-take max_keys nodes
