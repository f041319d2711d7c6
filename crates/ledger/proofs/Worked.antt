-- The worked examples: most by computation; that a job's own draft is found at its key needs that a key is the same as itself.
use Rattle.std.proofs.Common.{◌≡◌, ℕ, true, eqb, Ordering, refl, ap}
use Rattle.std.proofs.lemmas.Bool.{eq-eqb}
use Rattle.std.specs.Ordering.{is_eq}
use Rattle.keys.specs.Orders.{Total}
use Rattle.ledger.specs.Words.{same}
use Rattle.ledger.specs.Examples.{Examples}
use Rattle.ledger.proofs.Running.{sessions}

pub examples : {K R : Type 0} (order : K → K → Ordering) → Total order → Examples K R order
examples {K} order tot = record {
  span_holds = refl;
  span_ends = refl;
  limit_passes = λ k. refl;
  limit_frees = λ k. refl;
  leaves_record = λ job k r stamp past. rw (own job.number, itself k);
  lists_record = λ job k r stamp first_stamp. rw (own job.number, itself k);
  keeps_place = λ k job stamp. refl;
  sessions = sessions;
}
  where
    itself : (k : K) → same order k k ≡ true
    itself k = ap is_eq (tot.itself k)

    own : (t : ℕ) → eqb t t ≡ true
    own t = eq-eqb t t refl
