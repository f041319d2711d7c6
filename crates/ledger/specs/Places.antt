-- What a place of a store holds, what each event makes of it, and the tests by which calls pick places.
-- The steps of the calls move places by `after` alone, and so does the code.
use Rattle.std.specs.Prelude.{ℕ, Bool, true, false, ◌&&◌, List, Some, None, Option, ◌==◌, nat_le, nat_lt}
use Rattle.std.specs.declared.cmp.Ordering.{Ordering}
use Rattle.ledger.specs.declared.place.PlaceState.{PlaceState}
use Rattle.ledger.specs.declared.place.PlaceState.TheVariants.{Free, Unstamped, Gone, Current, Superseded}
use Rattle.ledger.specs.declared.place.PlaceEvent.{PlaceEvent}
use Rattle.ledger.specs.declared.place.PlaceEvent.TheVariants.{Put, Remove, Commit, Abort, Age}
use Rattle.ledger.specs.declared.place.Place.{Place}
use Rattle.ledger.specs.declared.place.Report.{Report}
use Rattle.ledger.specs.Words.{any, same}

-- the state after an event; as it was where the event does not concern it
abbrev pub next : {K : Type 0} → PlaceState K → PlaceEvent K → PlaceState K
next Free (Put k j) = Unstamped k j
next Free (Remove k j) = Gone k j
next Free (Commit s) = Free
next Free Abort = Free
next Free Age = Free
next (Unstamped k j) (Put q i) = Unstamped k j
next (Unstamped k j) (Remove q i) = Gone k j
next (Unstamped k j) (Commit s) = Current k s
next (Unstamped k j) Abort = Free
next (Unstamped k j) Age = Unstamped k j
next (Gone k j) (Put q i) = Unstamped k j
next (Gone k j) (Remove q i) = Gone k j
next (Gone k j) (Commit s) = Free
next (Gone k j) Abort = Free
next (Gone k j) Age = Gone k j
next (Current k b) (Put q i) = Current k b
next (Current k b) (Remove q i) = Current k b
next (Current k b) (Commit s) = Superseded k b s
next (Current k b) Abort = Current k b
next (Current k b) Age = Current k b
next (Superseded k b f) (Put q i) = Superseded k b f
next (Superseded k b f) (Remove q i) = Superseded k b f
next (Superseded k b f) (Commit s) = Superseded k b f
next (Superseded k b f) Abort = Superseded k b f
next (Superseded k b f) Age = Free

-- the place after an event
abbrev pub after : {K : Type 0} → Place K → PlaceEvent K → Place K
after p e = record { state = next p.state e }

-- a place without a version
abbrev pub free : {K : Type 0} → Place K
free = record { state = Free }

-- does the span from begin up to, but without, finish hold the stamp? the span of a current version has no end
abbrev pub spans : ℕ → Option ℕ → ℕ → Bool
spans begin None stamp = nat_le begin stamp
spans begin (Some finish) stamp = nat_le begin stamp && nat_lt stamp finish

-- does the span hold an open report's stamp?
abbrev pub in_report : List Report → ℕ → ℕ → Bool
in_report reports begin finish = any (λ r. spans begin (Some finish) r.stamp) reports

-- is there no version?
abbrev pub is_free : {K : Type 0} → PlaceState K → Bool
is_free Free = true
is_free (Unstamped k j) = false
is_free (Gone k j) = false
is_free (Current k b) = false
is_free (Superseded k b f) = false

-- the key that a place carries
abbrev pub key_of : {K : Type 0} → PlaceState K → Option K
key_of Free = None
key_of (Unstamped k j) = Some k
key_of (Gone k j) = Some k
key_of (Current k b) = Some k
key_of (Superseded k b f) = Some k

-- is it a draft of the job, a record or a mark?
abbrev pub is_draft_of : {K : Type 0} → ℕ → PlaceState K → Bool
is_draft_of t Free = false
is_draft_of t (Unstamped k j) = j == t
is_draft_of t (Gone k j) = j == t
is_draft_of t (Current k b) = false
is_draft_of t (Superseded k b f) = false

-- is it a current version?
abbrev pub is_current : {K : Type 0} → PlaceState K → Bool
is_current Free = false
is_current (Unstamped k j) = false
is_current (Gone k j) = false
is_current (Current k b) = true
is_current (Superseded k b f) = false

-- does a report with the stamp see it?
abbrev pub is_seen_at : {K : Type 0} → ℕ → PlaceState K → Bool
is_seen_at s Free = false
is_seen_at s (Unstamped k j) = false
is_seen_at s (Gone k j) = false
is_seen_at s (Current k b) = spans b None s
is_seen_at s (Superseded k b f) = spans b (Some f) s

-- is it superseded, with a finish that passes the test?
abbrev pub is_finished : {K : Type 0} → (ℕ → Bool) → PlaceState K → Bool
is_finished test Free = false
is_finished test (Unstamped k j) = false
is_finished test (Gone k j) = false
is_finished test (Current k b) = false
is_finished test (Superseded k b f) = test f

-- is it wanted: a draft, current, or superseded with an open report's stamp in its span?
abbrev pub is_wanted : {K : Type 0} → List Report → PlaceState K → Bool
is_wanted reports Free = false
is_wanted reports (Unstamped k j) = true
is_wanted reports (Gone k j) = true
is_wanted reports (Current k b) = true
is_wanted reports (Superseded k b f) = in_report reports b f

-- does the job's commit turn it? its drafts, and the current versions of the keys that it drafted
abbrev pub is_settled_by : {K : Type 0} → ℕ → (K → Bool) → PlaceState K → Bool
is_settled_by t drafted Free = false
is_settled_by t drafted (Unstamped k j) = j == t
is_settled_by t drafted (Gone k j) = j == t
is_settled_by t drafted (Current k b) = drafted k
is_settled_by t drafted (Superseded k b f) = false

-- is the option some key, the same as this one?
abbrev pub is_key : {K : Type 0} → (K → K → Ordering) → K → Option K → Bool
is_key order k None = false
is_key order k (Some q) = same order q k

-- does the place carry the key?
abbrev pub carries : {K : Type 0} → (K → K → Ordering) → K → PlaceState K → Bool
carries order k p = is_key order k (key_of p)
