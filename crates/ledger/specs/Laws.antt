-- What is true of every run of a store.
-- The laws speak of calls, answers and the ledger; only what ageing frees is said of places.
use Rattle.std.specs.Prelude.{◌≡◌, ℕ, ◌<◌, Bool, true, false, cond, not, ◌&&◌, ◌↔◌, List, [], ◌∷◌, map, is_some, Some, None, filter, Option, Ok, ◌==◌}
use Rattle.std.specs.declared.cmp.Ordering.{Ordering}
use Rattle.std.specs.List.{AllByRecursion, slice_get}
use Rattle.std.specs.Option.{unwrap_or}
use Rattle.keys.specs.Refusals.{Code, plain}
use Rattle.ledger.specs.declared.call.TicketId.{TicketId}
use Rattle.ledger.specs.declared.call.Call.{Call}
use Rattle.ledger.specs.declared.call.Call.TheVariants.{Walk, Basic}
use Rattle.ledger.specs.declared.call.BasicCall.TheVariants.{Read, Look, Age}
use Rattle.ledger.specs.declared.answer.Granted.TheVariants.{Record, Next}
use Rattle.ledger.specs.declared.place.PlaceState.TheVariants.{Superseded}
use Rattle.ledger.specs.Words.{when, first, any, same, less, beyond}
use Rattle.ledger.specs.Places.{in_report}
use Rattle.ledger.specs.Versions.{Version, draft, committed, has_draft}
use Rattle.ledger.specs.Calls.{Answer, Exchange, Change, drafts, commits, change, is_age, receives_shelf, refusal, granted, given}
use Rattle.ledger.specs.Ledger.{Ledger, ledger, how_many_wanted}
use Rattle.ledger.specs.Steps.{State, Numbers, Run}

-- it holds of each call of a list, with what came before it
abbrev pub EachCall : {K R : Type 0} → (Exchange K R → List (Exchange K R) → Type 0) → List (Exchange K R) → Type 0
EachCall P [] = Unit {0}
EachCall P (e ∷ past) = P e past × EachCall P past

-- it holds of the newest call, with what came before it
abbrev pub Newest : {K R : Type 0} → (Exchange K R → List (Exchange K R) → Type 0) → List (Exchange K R) → Type 0
Newest P [] = Unit {0}
Newest P (e ∷ past) = P e past

-- the least key that passes the test, or none where none passes
abbrev pub Least : {K : Type 0} → (K → K → Ordering) → (K → Bool) → Option K → Type 0
Least {K} order test None = (q : K) → test q ≡ false
Least {K} order test (Some k) = (test k ≡ true) × ((q : K) → test q ≡ true → less order q k ≡ false)

-- does the answer give out this running number?
abbrev pub gives : ℕ → Option TicketId → Bool
gives t None = false
gives t (Some n) = n.number == t

-- what came before the ticket with the running number was given out
abbrev pub before : {K R : Type 0} → ℕ → List (Exchange K R) → List (Exchange K R)
before t [] = []
before t (e ∷ past) = cond (gives t (given e.answer)) past (before t past)

module _ {K R : Type 0} (order : K → K → Ordering) where
  -- what a granted call drafts for the job at the key: a record, or none
  abbrev pub draft_made : ℕ → K → Change K R → Option (Option R)
  draft_made j k (drafts t q d) = when (t == j && same order q k) d
  draft_made j k _ = None

  -- what the job put or removed last at the key
  abbrev pub last_draft : ℕ → K → List (Exchange K R) → Option (Option R)
  last_draft j k = first (λ e. cond (granted e.answer) (draft_made j k (change e.call)) None)

  -- what a granted call leaves at the key, if it is a commit of a job that put or removed it
  abbrev pub leaves : K → Change K R → List (Exchange K R) → Option (Option R)
  leaves k (commits t) past = last_draft t k past
  leaves k _ past = None

  -- what the last commit of a job that put or removed the key left there; without such a commit, none
  abbrev pub left : K → List (Exchange K R) → Option R
  left k [] = None
  left k (e ∷ past) = unwrap_or (cond (granted e.answer) (leaves k (change e.call) past) None) (left k past)

  -- (a) a granted read shows what the last commit before its report began, of a job that put or removed the key, left there
  abbrev pub ReadIsTrue : Exchange K R → List (Exchange K R) → Type 0
  ReadIsTrue e past = (t : TicketId) (k : K) (shown : Option R) → e.call ≡ Basic (Read t k) → e.answer ≡ Ok (Record shown) → shown ≡ left k (before t.number past)

  -- a granted look shows what its job put or removed last at the key, else what the last such commit left there
  abbrev pub LookIsTrue : Exchange K R → List (Exchange K R) → Type 0
  LookIsTrue e past = (t : TicketId) (k : K) (shown : Option R) → e.call ≡ Basic (Look t k) → e.answer ≡ Ok (Record shown) → shown ≡ unwrap_or (last_draft t.number k past) (left k past)

  -- a granted walk answers the least key, greater than the given one, at which read would answer a record
  abbrev pub WalkIsTrue : Exchange K R → List (Exchange K R) → Type 0
  WalkIsTrue e past = (t : TicketId) (from found : Option K) → e.call ≡ Walk t from → e.answer ≡ Ok (Next found) → Least order (λ k. beyond order from k && is_some (left k (before t.number past))) found

-- the calls other than age, with their answers
abbrev pub but_for_age : {K R : Type 0} → List (Exchange K R) → List (Exchange K R)
but_for_age = filter (λ e. not (is_age (change e.call)))

-- what was asked: each call with its arguments, and the length of the shelf where it receives one
abbrev pub asked : {K R : Type 0} → List (Exchange K R) → List (Call K R × Option ℕ)
asked = map (λ e. (e.call, when (receives_shelf e.call) e.shelf))

-- what was answered
abbrev pub answers : {K R : Type 0} → List (Exchange K R) → List (Answer K R)
answers = map (λ e. e.answer)

-- refused before the places are looked at: at the ticket, the shelf, the key or the row
abbrev pub refused_earlier : Option Code → Bool
refused_earlier None = false
refused_earlier (Some why) = any (λ n. n == why.number) (4 ∷ 3 ∷ 7 ∷ 8 ∷ 9 ∷ [])

-- put and remove need a place when their job has no draft at the key
abbrev pub NeedsPlace : {K R : Type 0} → (K → K → Ordering) → List (Version K R) → Change K R → Type 0
NeedsPlace order versions (drafts t k d) = has_draft order t k versions ≡ false
NeedsPlace order versions _ = ⊥

-- some place that is not free carries the superseded version's key, record and stamps
abbrev pub HasPlace : {K R : Type 0} → State K R → K → R → ℕ → ℕ → Type 0
HasPlace s k r begin finish = (n : ℕ) × (slice_get s.places n ≡ Some (record { state = Superseded k begin finish })) × (slice_get s.shelf n ≡ Some r)

-- a version that finished below the limit has a place exactly when an open report's stamp lies in its span
abbrev pub KeptOrFreed : {K R : Type 0} → Ledger K R → State K R → ℕ → Version K R → Type 0
KeptOrFreed l s limit (draft j k d) = Unit {0}
KeptOrFreed l s limit (committed k r b None) = Unit {0}
KeptOrFreed l s limit (committed k r b (Some f)) = f < limit → (HasPlace s k r b f ↔ (in_report l.reports b f ≡ true))

module _ {K R : Type 0} (order : K → K → Ordering) (o : Numbers) where
  -- (b) a store opened with equal numbers and asked alike but for age answers alike all calls other than age
  abbrev pub AgeIsUnseen : List (Exchange K R) → Type 0
  AgeIsUnseen past = (past' : List (Exchange K R)) (s' : State K R) → Run order o past' s' → asked (but_for_age past) ≡ asked (but_for_age past') → answers (but_for_age past) ≡ answers (but_for_age past')

  -- (c) a call that meets no refusal earlier in its order gets 10 exactly when it needs a place and the wanted versions are as many as the places
  abbrev pub FullIsFull : Exchange K R → List (Exchange K R) → Type 0
  FullIsFull e past =
      let l = ledger order o.stamp past in
      refused_earlier (refusal e.answer) ≡ false → (refusal e.answer ≡ Some (plain 10)) ↔ (NeedsPlace order l.versions (change e.call) × (how_many_wanted l ≡ o.places))

  -- (c) after an age call every version of the ledger that finished below its limit is kept or freed rightly
  abbrev pub AgeFrees : State K R → Exchange K R → List (Exchange K R) → Type 0
  AgeFrees s e past = (limit : ℕ) → e.call ≡ Basic (Age limit) → let l = ledger order o.stamp past in AllByRecursion (KeptOrFreed l s limit) l.versions

  -- every call after the run has an answer
  abbrev pub GoesOn : List (Exchange K R) → Type 0
  GoesOn past = (c : Call K R) (n : ℕ) → (a : Answer K R) × (s' : State K R) × Run order o (record { call = c; shelf = n; answer = a } ∷ past) s'

  -- what is true of a list of calls that led from the opening to the store
  pub record Law (past : List (Exchange K R)) (s : State K R) : Type 0 where
    pub reads : EachCall (ReadIsTrue order) past
    pub looks : EachCall (LookIsTrue order) past
    pub walks : EachCall (WalkIsTrue order) past
    pub unseen : AgeIsUnseen past
    pub full : EachCall FullIsFull past
    pub freed : Newest (AgeFrees s) past
    pub goes : GoesOn past

-- the law holds of every run
abbrev pub LawOfRuns : (K R : Type 0) → (K → K → Ordering) → Type 0
LawOfRuns K R order = (o : Numbers) (past : List (Exchange K R)) (s : State K R) → Run order o past s → Law order o past s
