-- One turn of inserting, removing and taking the least node, as the code takes it: a node was found at the link, the part
-- on a side was changed by the same function with one less for the depth, and the node was relinked.
-- Each lemma says it of every tree that fits at the link, by the fork that such a tree must be.
use Rattle.std.proofs.Common.{◌≡◌, ℕ, suc, ◌-◌, ◌≤◌, List, Some, None, Option, Ordering, sym, refl, ap, ◌∙◌, subst, inl, inr, arith}
use Rattle.keys.specs.Orders.{Total}
use Rattle.std.specs.List.{slice_get}
use Rattle.tree_index.proofs.Changes.{join_left, least_comes_up, least_further, least_here, new_leaf, old_leaf, part_becomes}
use Rattle.tree_index.proofs.Layouts.{at_fork, at_leaf, part_lower}
use Rattle.tree_index.proofs.Links.{none_told, side_apart, side_told}
use Rattle.tree_index.proofs.Nodes.{same_key}
use Rattle.tree_index.specs.declared.link.Links.{Links}
use Rattle.tree_index.specs.declared.link.Side.{Side}
use Rattle.tree_index.specs.declared.link.Side.TheVariants.{Left, Right}
use Rattle.tree_index.specs.declared.node.Found.{Found}
use Rattle.tree_index.specs.declared.node.Node.{Node}
use Rattle.tree_index.specs.declared.remove.Min.{Min}
use Rattle.tree_index.specs.Changes.{Becomes, Inserts, Joins, LosesMin, Removes}
use Rattle.tree_index.specs.Layouts.{EachTreeAt, Fits, Lies}
use Rattle.tree_index.specs.Links.{child, side_of, with_child}
use Rattle.tree_index.specs.Nodes.{Leads, childless, relinked}
use Rattle.tree_index.specs.Trees.{In, On, Ordered, Tree, fork, height, leaf}

module _ {K : Type 0} (order : K → K → Ordering) (total : Total order) (before : List (Node K)) (at : Option ℕ) (depth : ℕ) where
  -- the empty tree
  module _ (leads : Leads before at None) (key : K) where
    pub inserts_leaf : (new : Option ℕ) → Inserts order before before at key new depth new
    inserts_leaf new fresh =
        at_leaf order before at depth (λ t. ((n : ℕ) → In t n key → ⊥) → Becomes order before before t new key new) leads (λ past out. new_leaf order total before new key fresh)

    pub removes_leaf : Removes order before before at key depth at
    removes_leaf = at_leaf order before at depth (λ t. Becomes order before before t at key None) leads (old_leaf order total before at key)

  -- the empty tree has no least node
  pub takes_none : Leads before at None → (taken : Option Min) → taken ≡ None → EachTreeAt order before at depth (LosesMin order before before taken)
  takes_none leads taken is = at_leaf order before at depth (LosesMin order before before taken) leads (λ past. subst (λ (m : Option Min). LosesMin order before before m leaf) (sym is) (refl, refl))

  module _ (found : Found K) (leads : Leads before at (Some found)) (some : depth ≡ 0 → ⊥) where
    -- the part on a side fits at its link, with one node less on a way down
    part_fits : (parts : Side → Tree K) (side : Side) (link : Option ℕ) → link ≡ child found.links side → Ordered order (fork parts found.place found.key) →
        ((s : Side) → Lies before (child found.links s) (parts s)) → height (fork parts found.place found.key) ≤ depth → Fits order before link (parts side) (depth - 1)
    part_fits parts side link is o lies low =
        record {
          lies = subst (λ (l : Option ℕ). Lies before l (parts side)) (sym is) (lies side);
          ordered = (o side).1;
          low = let part : suc (height (parts side)) ≤ height (fork parts found.place found.key) = part_lower parts found.place found.key side in omega arith;
        }

    -- the least node is in the left part, or else is that of the fork
    pub takes_left : (mid after : List (Node K)) (links : Links) (least : Min) → links ≡ with_child found.links Left least.rest → after ≡ relinked mid found.place links →
        EachTreeAt order before found.links.left (depth - 1) (LosesMin order before mid (Some least)) →
        EachTreeAt order before at depth (LosesMin order before after (Some (record { place = least.place; rest = at })))
    takes_left mid after links least is_links is_after takes =
        at_fork order before at depth (LosesMin order before after (Some (record { place = least.place; rest = at }))) found leads
        (λ parts o lies low. least_further order total before found.links parts found.place found.key o lies leads.1 mid after at least leads.0
        (is_after ∙ ap (relinked mid found.place) is_links) (takes (parts Left) (part_fits parts Left found.links.left refl o lies low)))

    pub takes_here : (after : List (Node K)) → EachTreeAt order before found.links.left (depth - 1) (LosesMin order before after None) →
        EachTreeAt order before at depth (LosesMin order before after (Some (record { place = found.place; rest = found.links.right })))
    takes_here after takes =
        at_fork order before at depth (LosesMin order before after (Some (record { place = found.place; rest = found.links.right }))) found leads
        (λ parts o lies low. let q = takes (parts Left) (part_fits parts Left found.links.left refl o lies low) in
        subst (λ (nodes : List (Node K)). LosesMin order before nodes (Some (record { place = found.place; rest = found.links.right })) (fork parts found.place found.key)) (sym q.1)
        (least_here order total before found.links parts found.place found.key o lies q.0))

    module _ (key : K) (o : Ordering) (told : o ≡ order key found.key) where
      -- the key is that of the fork: it is there already, or its parts are joined
      module _ (here : None ≡ side_of o) where
        pub inserts_here : (new : Option ℕ) → Inserts order before before at key new depth at
        inserts_here new fresh =
            at_fork order before at depth (λ t. ((n : ℕ) → In t n key → ⊥) → Becomes order before before t at key new) found leads
            (λ parts o' lies low out. absurd (out found.place (inl (refl, sym (none_told order total key found.key o here told)))))

        pub removes_here : (after : List (Node K)) (link : Option ℕ) → Joins order before after found.links (depth - 1) link → Removes order before after at key depth link
        removes_here after link joins =
            at_fork order before at depth (λ t. Becomes order before after t link key None) found leads
            (λ parts o' lies low. subst (λ (k : K). Becomes order before after (fork parts found.place found.key) link k None) (sym (none_told order total key found.key o here told))
            (joins parts found.place found.key o' lies (part_fits parts Right (child found.links Right) refl o' lies low).low))

      -- the key belongs on a side: the part there changes
      module _ (side : Side) (on_side : Some side ≡ side_of o) (mid after : List (Node K)) (down link : Option ℕ) (links : Links) (is_down : down ≡ child found.links side)
          (is_links : links ≡ with_child found.links side link) (is_after : after ≡ relinked mid found.place links) where
        on : On order side key found.key
        on = side_told order total side key found.key o on_side told

        changes_side : (number : Option ℕ) (parts : Side → Tree K) → (number ≡ Some found.place → ⊥) → Ordered order (fork parts found.place found.key) →
            ((s : Side) → Lies before (child found.links s) (parts s)) → height (fork parts found.place found.key) ≤ depth →
            (Fits order before down (parts side) (depth - 1) → Becomes order before mid (parts side) link key number) →
            Becomes order before after (fork parts found.place found.key) at key number
        changes_side number parts apart o' lies low change =
            part_becomes order total before found.links parts found.place found.key o' lies leads.1 mid after at link side key number leads.0 on apart
            (is_after ∙ ap (relinked mid found.place) is_links) (change (part_fits parts side down is_down o' lies low))

        -- the new node is another one, since it has another key
        pub inserts_side : (new : Option ℕ) → Inserts order before mid down key new (depth - 1) link → Inserts order before after at key new depth at
        inserts_side new inserts fresh =
            at_fork order before at depth (λ t. ((n : ℕ) → In t n key → ⊥) → Becomes order before after t at key new) found leads
            (λ parts o' lies low out. changes_side new parts
            (λ e. let led : new ≡ Some fresh.0 = fresh.1 in let place : fresh.0 ≡ found.place = cc in
            side_apart order total side key found.key on (same_key before found.place _ _ key found.key (subst (λ (n : ℕ). slice_get before n ≡ Some (childless (Some key))) place fresh.2) leads.1 refl refl))
            o' lies low (λ fits. inserts fresh (parts side) fits (λ n i. out n (inr (side, i)))))

        pub removes_side : Removes order before mid down key (depth - 1) link → Removes order before after at key depth at
        removes_side removes =
            at_fork order before at depth (λ t. Becomes order before after t at key None) found leads
            (λ parts o' lies low. changes_side None parts (λ e. cc) o' lies low (removes (parts side)))

-- joining the parts of a fork
module _ {K : Type 0} (order : K → K → Ordering) (total : Total order) (before after : List (Node K)) (links : Links) (depth : ℕ) where
  right_fits : (parts : Side → Tree K) (n : ℕ) (k : K) → Ordered order (fork parts n k) → ((side : Side) → Lies before (child links side) (parts side)) → height (parts Right) ≤ depth → Fits order before links.right (parts Right) depth
  right_fits parts n k o lies low = record { lies = lies Right; ordered = (o Right).1; low = low }

  pub joins_left : EachTreeAt order before links.right depth (LosesMin order before after None) → Joins order before after links depth links.left
  joins_left takes parts n k o lies low =
      let q = takes (parts Right) (right_fits parts n k o lies low) in
      subst (λ (nodes : List (Node K)). Becomes order before nodes (fork parts n k) links.left k None) (sym q.1) (join_left order total before links parts n k o lies q.0)

  pub joins_least : (mid : List (Node K)) (next : Links) (least : Min) → EachTreeAt order before links.right depth (LosesMin order before mid (Some least)) →
      next ≡ with_child links Right least.rest → after ≡ relinked mid least.place next → Joins order before after links depth (Some least.place)
  joins_least mid next least takes is_next is_after parts n k o lies low =
      least_comes_up order total before links parts n k o lies mid after least
      (is_after ∙ ap (relinked mid least.place) is_next) (takes (parts Right) (right_fits parts n k o lies low))
