-- A store at opening: the empty list of calls led to it, and its table is sound.
use Rattle.std.proofs.Common.{◌≡◌, ℕ, zero, suc, ◌≤◌, true, not, [], ◌∷◌, replicate, IfOk, Ok, Err, Result, sym, refl, subst}
use Rattle.std.proofs.lemmas.Bool.{and_parts, leb-true, not-false}
use Rattle.keys.specs.declared.key.Key as Key
use Rattle.index.specs.declared.index.Index as Index
use Rattle.keys.specs.Refusals.{plain}
use Rattle.ledger.specs.declared.place.PlaceState.TheVariants.{Free}
use Rattle.ledger.specs.Limits.{last_stamp}
use Rattle.ledger.specs.Places.{free}
use Rattle.ledger.specs.Steps.{Run}
use Rattle.table.specs.Views.{View, view, at, new_view}
use Rattle.engine.specs.declared.store.Store.{Store}
use Rattle.engine.specs.declared.refusal.OpenError.{OpenError}
use Rattle.engine.specs.declared.open.Opening.{Opening}
use Rattle.engine.specs.Opening.{in_ranges, is_fit, open_checks, refusal_of}
use Rattle.ledger.specs.Words.{when}
use Rattle.table.specs.Checks.{sent_back}
use Rattle.bridge.specs.States.{state}
use Rattle.bridge.specs.Soundness.{DraftOf, Sound}
use Rattle.bridge.proofs.Checks.{passes, unmet}
use Rattle.store.specs.Law.{LedFrom, numbers}

all_free : {K : Type 0} (p n : ℕ) → at (replicate p (free {K = K})) n ≡ Free
all_free zero n = refl
all_free (suc p) zero = refl
all_free (suc p) (suc n) = all_free p n

new_sound : {K : Type 0} (n p s t : ℕ) → s ≤ last_stamp → Sound {K = K} (new_view n p s t)
new_sound {K} n p s t le = record {
  stamp = le;
  reports = (tt, tt);
  jobs = (tt, tt);
  rows = record { fit = tt; apart = tt; noted = λ m u k d. let z : DraftOf u k Free = subst (DraftOf u k) (all_free p m) d in cc };
}

-- the first stamp of an opening that no check refused
stamp_within : (n p s t : ℕ) → in_ranges n p s t ≡ true → s ≤ last_stamp
stamp_within n p s t h = leb-true s last_stamp (and_parts _ _ (and_parts _ _ (and_parts _ _ h).0).0).1

pub led_from : {I K : Type 0} {i : Index.Ghosts I K} {k : Key.Ghosts K} (R : Type 0) (index : I) (o : Opening) (r : Result (Store I K i k) (OpenError I)) → refusal_of r ≡ sent_back (open_checks (i.slots index) o.store o.places o.first_stamp o.first_ticket)
    → IfOk r (λ st. view st.table ≡ new_view o.store o.places o.first_stamp o.first_ticket) → LedFrom R (numbers o) r
led_from R index o (Err e) h v = tt
led_from {I} {K} {i} {k} R index o (Ok st) h v = λ own e.
    let inside = not (in_ranges o.store o.places o.first_stamp o.first_ticket) in
    let a = passes (when inside (plain 1)) (when (not (is_fit (i.slots index) o.places)) (plain 2) ∷ []) (sym h) in
    let b = not-false (in_ranges o.store o.places o.first_stamp o.first_ticket) (unmet inside (plain 1) a.0) in
    record {
      run = subst (λ (w : View K). Run k.order (numbers o) [] (state w own)) (sym v) (record { control = refl; places = refl; shelf = e });
      table = subst Sound (sym v) (new_sound o.store o.places o.first_stamp o.first_ticket (stamp_within o.store o.places o.first_stamp o.first_ticket b));
    }
