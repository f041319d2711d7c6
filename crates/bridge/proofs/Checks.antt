-- What a call checks of the table is what the ledger has it check of the store's state: the look-up of tickets, and who holds a key.
-- These hold of every table; what depends on soundness (drafts, rows, places) is in Held.
use Rattle.std.specs.List.{cons_option}
use Rattle.std.proofs.Common.{◌≡◌, ℕ, Bool, true, false, cond, not, ◌&&◌, ◌||◌, eqb, List, [], ◌∷◌, is_some, Some, None, Option, Ordering, refl, ap, ◌∙◌}
use Rattle.std.specs.Option.{option_map}
use Rattle.std.proofs.lemmas.Bool.{eqb-true, not-false}
use Rattle.keys.specs.Refusals.{Code}
use Rattle.ledger.specs.declared.call.TicketId.{TicketId}
use Rattle.ledger.specs.declared.place.Place.{Place}
use Rattle.ledger.specs.Words.{when, first, any, same}
use Rattle.ledger.specs.Places.{is_key}
use Rattle.ledger.specs.Control.{stamp_of, keys_of, job_at, has_key, other_holder}
use Rattle.ledger.specs.Steps.{told_holder}
pub use Rattle.ledger.proofs.Checks.{passed as unmet}
use Rattle.table.specs.declared.row.HeldKey.{HeldKey}
use Rattle.table.specs.declared.row.Row.{Row}
use Rattle.table.specs.Lists.{with_ticket}
use Rattle.table.specs.Rows.{entries_of, place_of}
use Rattle.table.specs.Views.{View, row_number, report_number, open_report, open_job}
use Rattle.table.specs.Checks.{sent_back as first_refusal}
use Rattle.table.specs.Holds.{carries_at, holds_key, row_holds, other_holder as holder_among}
pub use Rattle.table.proofs.Seeing.{position_any, position_none, position_some}
use Rattle.bridge.specs.States.{key_at, key_held, keys_held, job_in, jobs_in, control}
use Rattle.bridge.proofs.Tickets.{first_map, look_up}

pub some_mapped : {X Y : Type 0} (f : X → Y) (o : Option X) → is_some (option_map f o) ≡ is_some o
some_mapped f None = refl
some_mapped f (Some x) = refl

pub first_same : {X Y : Type 0} (f g : X → Option Y) → ((x : X) → f x ≡ g x) → (xs : List X) → first f xs ≡ first g xs
first_same f g h [] = refl
first_same f g h (x ∷ xs) = rw (h x, first_same f g h xs)

-- tickets
in_store : {X Y : Type 0} (f : X → Y) (b : Bool) (o : Option X) → cond b (option_map f o) None ≡ option_map f (cond b o None)
in_store f true o = refl
in_store f false o = refl

pub job_at_is : {K : Type 0} (ps : List (Place K)) (rows : List Row) (n : ℕ) → job_at n (jobs_in ps rows) ≡ option_map (λ r. keys_held ps (entries_of r)) (with_ticket row_number n rows)
job_at_is ps rows n = first_map (λ j. when (eqb j.ticket n) j.keys) (job_in ps) rows ∙ look_up row_number (λ r. keys_held ps (entries_of r)) n rows

module _ {K : Type 0} (v : View K) (t : TicketId) where
  pub stamp_of_is : stamp_of (control v) t ≡ option_map (λ r. r.stamp) (open_report v t)
  stamp_of_is = rw (look_up report_number (λ r. r.stamp) t.number v.reports) (in_store (λ r. r.stamp) (eqb t.store v.store) (with_ticket report_number t.number v.reports))

  pub keys_of_is : keys_of (control v) t ≡ option_map (λ r. keys_held v.places (entries_of r)) (open_job v t)
  keys_of_is = rw (job_at_is v.places v.jobs t.number) (in_store (λ r. keys_held v.places (entries_of r)) (eqb t.store v.store) (with_ticket row_number t.number v.jobs))

  -- an open ticket is one of this store, with a row among those of the open jobs
  pub open_row : (row : Row) → open_job v t ≡ Some row → with_ticket row_number t.number v.jobs ≡ Some row
  open_row row = go (eqb t.store v.store)
    where
      go : (b : Bool) → cond b (with_ticket row_number t.number v.jobs) None ≡ Some row → with_ticket row_number t.number v.jobs ≡ Some row
      go true e = e
      go false e = cc

-- a call that passes all checks passes the first and the rest
pub passes : (c : Option Code) (cs : List (Option Code)) → first_refusal (c ∷ cs) ≡ None → (c ≡ None) × (first_refusal cs ≡ None)
passes None cs e = (refl, e)
passes (Some why) cs e = cc

pub shelf_is : (m n : ℕ) → not (eqb m n) ≡ false → m ≡ n
shelf_is m n e = eqb-true m n (not-false (eqb m n) e)

pub no_holder : (o : Option ℕ) → told_holder o ≡ None → o ≡ None
no_holder None e = refl
no_holder (Some t) e = cc

-- holds
module _ {K : Type 0} (order : K → K → Ordering) (ps : List (Place K)) (k : K) where
  pub holds_is : (o : Option ℕ) → carries_at order ps k o ≡ is_key order k (key_at ps o)
  holds_is None = refl
  holds_is (Some n) = refl

  pub has_key_is : (es : List HeldKey) → has_key order k (keys_held ps es) ≡ any (holds_key order ps k) es
  has_key_is [] = refl
  has_key_is (e ∷ es) = one (key_held ps e) (has_key_is es) ∙ rw (holds_is (place_of e))
    where
      one : (o : Option K) → has_key order k (keys_held ps es) ≡ any (holds_key order ps k) es → has_key order k (cons_option o (keys_held ps es)) ≡ (is_key order k o || any (holds_key order ps k) es)
      one None i = i
      one (Some q) i = ap (λ b. same order q k || b) i

  pub holder_is : (t : ℕ) (rows : List Row) → other_holder order t k (jobs_in ps rows) ≡ holder_among order ps k t rows
  holder_is t rows = first_map (λ j. when (not (eqb j.ticket t) && has_key order k j.keys) j.ticket) (job_in ps) rows
      ∙ first_same (λ row. when (not (eqb row.ticket t) && has_key order k (keys_held ps (entries_of row))) row.ticket) (λ row. when (not (eqb row.ticket t) && row_holds order ps k row) row.ticket) (λ row. rw (has_key_is (entries_of row))) rows
