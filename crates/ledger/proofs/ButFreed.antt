-- Versions but for some that were freed: how a store's places stand to the model's list.
-- A version is freeable when it is superseded and in no open report's span. The relation is kept by whatever picks or changes versions one by one and
-- leaves freeable ones alone, by one version more on both sides, and by ageing, which frees some more.
use Rattle.std.proofs.Common.{◌≡◌, ℕ, Bool, true, false, not, ◌&&◌, List, ◌∷◌, ◌++◌, Some, None, filter, Option, sym, refl, subst}
use Rattle.std.specs.List.{AllByRecursion}
use Rattle.std.proofs.lemmas.List.{append_assoc}
use Rattle.std.proofs.lemmas.List.Elements.{filter_map-append}
use Rattle.std.proofs.ByRecursion.{All-append, All-weaker, kept_by_passes}
use Rattle.ledger.specs.declared.place.Report.{Report}
use Rattle.ledger.specs.Words.{when, picked}
use Rattle.ledger.specs.Places.{in_report}
use Rattle.ledger.specs.Versions.{Version, draft, committed, wanted, finished}
use Rattle.ledger.proofs.Permutations.{Perm, skip, then, perm_eq, perm_picked, perm_append_left, perm_append_right, picked_kept, kept_both}
use Rattle.ledger.proofs.Finding.{picked_self}
use Rattle.ledger.proofs.Contents.{spared}

-- superseded, and in no open report's span
abbrev pub Freeable : {K R : Type 0} → List Report → Version K R → Type 0
Freeable reports v = (finished (λ f. true) v ≡ true) × (wanted reports v ≡ false)

-- here are all of the versions, in any order, but for some that were freed
pub record AllButFreed {K R : Type 0} (reports : List Report) (all here : List (Version K R)) : Type 0 where
  pub freed : List (Version K R)
  pub listed : Perm (here ++ freed) all
  pub freeable : AllByRecursion (Freeable reports) freed

module _ {K R : Type 0} (reports : List Report) (all here : List (Version K R)) (w : AllButFreed reports all here) where
  -- in another order
  pub but_freed_perm : (here' : List (Version K R)) → Perm here' here → AllButFreed reports all here'
  but_freed_perm here' p = record { freed = w.freed; listed = then (perm_append_right w.freed p) w.listed; freeable = w.freeable }

  -- with one more
  pub but_freed_cons : (v : Version K R) → AllButFreed reports (v ∷ all) (v ∷ here)
  but_freed_cons v = record { freed = w.freed; listed = skip w.listed; freeable = w.freeable }

  -- after a change of each version that leaves freeable ones alone
  pub but_freed_picked : (g : Version K R → Option (Version K R)) → ((v : Version K R) → Freeable reports v → g v ≡ Some v) → AllButFreed reports (picked g all) (picked g here)
  but_freed_picked g alone = record {
    freed = w.freed;
    listed =
        then (perm_append_left (picked g here) (perm_eq w.freed (picked g w.freed) (sym (picked_self g w.freed (All-weaker (Freeable reports) (λ v. g v ≡ Some v) alone w.freed w.freeable)))))
        (then (perm_eq (picked g here ++ picked g w.freed) (picked g (here ++ w.freed)) (sym (filter_map-append g here w.freed))) (perm_picked g w.listed));
    freeable = w.freeable;
  }

  -- after a filter that lets freeable ones pass
  pub but_freed_kept : (test : Version K R → Bool) → ((v : Version K R) → Freeable reports v → test v ≡ true) → AllButFreed reports (filter test all) (filter test here)
  but_freed_kept test pass =
      subst (λ vs. AllButFreed reports vs (filter test here)) (picked_kept test all)
      (subst (λ vs. AllButFreed reports (picked (λ v. when (test v) v) all) vs) (picked_kept test here) (but_freed_picked (λ v. when (test v) v) (λ v h. rw (pass v h))))

  -- what ageing takes away is freeable
  unspared : (test : ℕ → Bool) (v : Version K R) → not (spared test reports v) ≡ true → Freeable reports v
  unspared test (draft j k d) h = cc
  unspared test (committed k r b None) h = cc
  unspared test (committed k r b (Some f)) h = go (test f) (in_report reports b f) h
    where
      go : (x y : Bool) → not (not (x && not y)) ≡ true → (true ≡ true) × (y ≡ false)
      go true true h = cc
      go true false h = (refl, refl)
      go false y h = cc

  -- after ageing
  pub but_freed_aged : (test : ℕ → Bool) → AllButFreed reports all (filter (spared test reports) here)
  but_freed_aged test = record {
    freed = gone ++ w.freed;
    listed =
        then (perm_eq (filter (spared test reports) here ++ (gone ++ w.freed)) ((filter (spared test reports) here ++ gone) ++ w.freed) (sym (append_assoc (filter (spared test reports) here) gone w.freed)))
        (then (perm_append_right w.freed (kept_both (spared test reports) here)) w.listed);
    freeable = All-append (Freeable reports) gone w.freed (All-weaker (λ v. not (spared test reports v) ≡ true) (Freeable reports) (unspared test) gone (kept_by_passes (λ v. not (spared test reports v)) here)) w.freeable;
  }
    where
      gone : List (Version K R)
      gone = filter (λ v. not (spared test reports v)) here
