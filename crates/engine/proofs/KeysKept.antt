-- An event frees a place or leaves its key as it was; only a free place takes a key up.
use Rattle.std.proofs.Common.{◌≡◌, Some}
use Rattle.ledger.specs.Places.{key_of, next}
use Rattle.ledger.specs.declared.place.PlaceEvent.{PlaceEvent}
use Rattle.ledger.specs.declared.place.PlaceEvent.TheVariants.{Put, Remove, Commit, Abort, Age}
use Rattle.ledger.specs.declared.place.PlaceState.{PlaceState}
use Rattle.ledger.specs.declared.place.PlaceState.TheVariants.{Free, Unstamped, Gone, Current, Superseded}

pub key_kept : {K : Type 0} (s : PlaceState K) (e : PlaceEvent K) (a b : K) → key_of s ≡ Some a → key_of (next s e) ≡ Some b → a ≡ b
key_kept Free e a b p q = cc
key_kept (Unstamped k j) (Put x i) a b p q = cc
key_kept (Unstamped k j) (Remove x i) a b p q = cc
key_kept (Unstamped k j) (Commit s) a b p q = cc
key_kept (Unstamped k j) Abort a b p q = cc
key_kept (Unstamped k j) Age a b p q = cc
key_kept (Gone k j) (Put x i) a b p q = cc
key_kept (Gone k j) (Remove x i) a b p q = cc
key_kept (Gone k j) (Commit s) a b p q = cc
key_kept (Gone k j) Abort a b p q = cc
key_kept (Gone k j) Age a b p q = cc
key_kept (Current k f) (Put x i) a b p q = cc
key_kept (Current k f) (Remove x i) a b p q = cc
key_kept (Current k f) (Commit s) a b p q = cc
key_kept (Current k f) Abort a b p q = cc
key_kept (Current k f) Age a b p q = cc
key_kept (Superseded k f l) (Put x i) a b p q = cc
key_kept (Superseded k f l) (Remove x i) a b p q = cc
key_kept (Superseded k f l) (Commit s) a b p q = cc
key_kept (Superseded k f l) Abort a b p q = cc
key_kept (Superseded k f l) Age a b p q = cc
