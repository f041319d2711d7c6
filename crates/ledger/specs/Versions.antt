-- Drafts and versions, as the places of a store hold them and as the ledger lists them, and what jobs and reports find among them.
-- One type for both, so that a store's places and the ledger can be compared.
use Rattle.std.specs.Prelude.{ℕ, Bool, true, false, cond, not, ◌&&◌, List, ◌∷◌, is_some, Some, None, filter, Option, ◌==◌}
use Rattle.std.specs.declared.cmp.Ordering.{Ordering}
use Rattle.std.specs.Option.{option_map, unwrap_or}
use Rattle.ledger.specs.declared.place.Report.{Report}
use Rattle.ledger.specs.Words.{when, or_else, first, picked, same, beyond}
use Rattle.ledger.specs.Places.{spans, in_report}

-- what a place can hold of a key
pub data Version (K R : Type 0) : Type 0 where
  -- what an open job wrote at a key: a record, or none where it removed
  draft : ℕ → K → Option R → Version K R
  -- a record that was committed for a key, its begin stamp, and its finish stamp if it was superseded
  committed : K → R → ℕ → Option ℕ → Version K R

-- wanted: drafts, current versions, and superseded ones whose span holds an open report's stamp
abbrev pub wanted : {K R : Type 0} → List Report → Version K R → Bool
wanted reports (draft j k d) = true
wanted reports (committed k r b None) = true
wanted reports (committed k r b (Some f)) = in_report reports b f

-- is it superseded, with a finish that passes the test?
abbrev pub finished : {K R : Type 0} → (ℕ → Bool) → Version K R → Bool
finished test (draft j k d) = false
finished test (committed k r b None) = false
finished test (committed k r b (Some f)) = test f

-- is it a draft of the job?
abbrev pub drafted_by : {K R : Type 0} → ℕ → Version K R → Bool
drafted_by t (draft j k d) = j == t
drafted_by t (committed k r b f) = false

module _ {K R : Type 0} (order : K → K → Ordering) where
  -- the job's draft at the key: a record, or none where it removed
  abbrev pub draft_in : ℕ → K → Version K R → Option (Option R)
  draft_in t k (draft j q d) = when (j == t && same order q k) d
  draft_in t k (committed q r b f) = None

  -- the job's draft at the key, among some versions
  abbrev pub draft_at : ℕ → K → List (Version K R) → Option (Option R)
  draft_at t k = first (draft_in t k)

  -- has the job a draft at the key?
  abbrev pub has_draft : ℕ → K → List (Version K R) → Bool
  has_draft t k vs = is_some (draft_at t k vs)

  -- the record of the key's current version
  abbrev pub current_in : K → Version K R → Option R
  current_in k (draft j q d) = None
  current_in k (committed q r b None) = when (same order q k) r
  current_in k (committed q r b (Some f)) = None

  -- the key's current record, among some versions
  abbrev pub current_at : K → List (Version K R) → Option R
  current_at k = first (current_in k)

  -- the record that a report with the stamp sees at the key
  abbrev pub seen_in : ℕ → K → Version K R → Option R
  seen_in s k (draft j q d) = None
  seen_in s k (committed q r b f) = when (same order q k && spans b f s) r

  -- what a report with the stamp sees at the key, among some versions
  abbrev pub seen_at : ℕ → K → List (Version K R) → Option R
  seen_at s k = first (seen_in s k)

  -- the key of a version that a report with the stamp sees, if it is greater than the given one
  abbrev pub key_seen_in : ℕ → Option K → Version K R → Option K
  key_seen_in s from (draft j k d) = None
  key_seen_in s from (committed k r b f) = when (spans b f s && beyond order from k) k

  -- the keys, greater than the given one, at which a report with the stamp sees a record
  abbrev pub keys_seen : ℕ → Option K → List (Version K R) → List K
  keys_seen s from = picked (key_seen_in s from)

  -- what a job finds at a key: its own draft's record, none for its own mark, else the current record, else none
  abbrev pub looked : ℕ → K → List (Version K R) → Option R
  looked t k vs = unwrap_or (draft_at t k vs) (current_at k vs)

  -- does a look find a current version, and no draft of its own?
  abbrev pub finds_current : ℕ → K → List (Version K R) → Bool
  finds_current t k vs = not (has_draft t k vs) && is_some (current_at k vs)

  -- the job's draft at the key is now this one
  abbrev pub drafted : ℕ → K → Option R → List (Version K R) → List (Version K R)
  drafted t k d vs = draft t k d ∷ filter (λ v. not (is_some (draft_in t k v))) vs

  -- what a job's commit at the stamp makes of a version: its drafted record becomes current, its mark goes, and a current version of a key that it wrote finishes
  abbrev pub settled : ℕ → ℕ → (K → Bool) → Version K R → Option (Version K R)
  settled t stamp written (draft j k d) = cond (j == t) (option_map (λ r. committed k r stamp None) d) (Some (draft j k d))
  settled t stamp written (committed k r b f) = Some (committed k r b (or_else f (when (written k) stamp)))

  -- all versions after the job's commit at the stamp
  abbrev pub settled_all : ℕ → ℕ → List (Version K R) → List (Version K R)
  settled_all t stamp vs = picked (settled t stamp (λ k. has_draft t k vs)) vs

  -- all versions without the job's drafts
  abbrev pub without_drafts : ℕ → List (Version K R) → List (Version K R)
  without_drafts t vs = filter (λ v. not (drafted_by t v)) vs
