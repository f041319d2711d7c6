-- A list of calls made one after another leads on as a whole: what is true after some of them is true after one more.
-- The shelf that is handed over is the store's own all along, or it has another length and is left alone by every call.
use Rattle.std.proofs.Common.{◌≡◌, ℕ, zero, suc, ◌+◌, ◌<◌, Bool, true, false, cond, eqb, List, [], ◌∷◌, length, get_or, take, drop, set, sym, refl, ap, ◌∙◌, subst, arith, length-set}
use Rattle.std.proofs.lemmas.List.{drop-drop, drop-set-lt, take_all}
use Rattle.std.proofs.lemmas.Bool.{eqb-true, eq-eqb}
use Rattle.keys.specs.declared.key.Key as Key
use Rattle.index.specs.declared.index.Index as Index
use Rattle.keys.specs.Orders.{Total}
use Rattle.ledger.specs.declared.call.BasicCall.{BasicCall}
use Rattle.ledger.specs.declared.call.Call.TheVariants.{Basic}
use Rattle.ledger.specs.Calls.{Answer, Exchange}
use Rattle.ledger.specs.Steps.{Numbers}
use Rattle.ledger.proofs.Reached.{reached_lengths}
use Rattle.ledger.proofs.Whole.{law_of_runs}
use Rattle.table.specs.Views.{view}
use Rattle.engine.specs.declared.store.Store.{Store}
use Rattle.bridge.specs.Answers.{exchange}
use Rattle.bridge.specs.Shelves.{Own, kept}
use Rattle.bridge.specs.States.{state}
use Rattle.bridge.proofs.Shelves.{kept_same, own_kept}
use Rattle.store.specs.Law.{Led, LeadsOn, LeftAlone}
use Rattle.store.specs.Lists.{exchanges, LeadsThrough}

-- the store's own shelf after two calls that were handed a shelf of the same length
kept_kept : {R : Type 0} (own handed left last : List R) → length left ≡ length handed → kept (kept own handed left) left last ≡ kept own handed last
kept_kept {R} own handed left last e = go (eqb (length handed) (length own)) refl
  where
    go : (b : Bool) → eqb (length handed) (length own) ≡ b → kept (cond b left own) left last ≡ cond b last own
    go true h = rw (eq-eqb (length left) (length left) refl) refl
    go false h = rw (ap (λ n. eqb n (length own)) e ∙ h) refl

-- one more call and its answer
exchanges_more : {K R : Type 0} (calls : List (BasicCall K R)) (answers : List (Answer K R)) (n : ℕ) (past : List (Exchange K R)) (i : ℕ) (c : BasicCall K R) (a : Answer K R)
    → i < length calls → i < length answers → c ≡ get_or calls i c
    → exchanges (take (suc i) calls) (take (suc i) (set answers i a)) n past ≡ exchange (Basic c) n a ∷ exchanges (take i calls) (take i answers) n past
exchanges_more [] answers n past i c a lt lt' e = absurd (omega arith)
exchanges_more (x ∷ calls) [] n past i c a lt lt' e = absurd (omega arith)
exchanges_more (x ∷ calls) (y ∷ answers) n past zero c a lt lt' e = ap (λ z. exchange (Basic z) n a ∷ past) (sym e)
exchanges_more (x ∷ calls) (y ∷ answers) n past (suc i) c a lt lt' e = exchanges_more calls answers n (exchange (Basic x) n y ∷ past) i c a (omega arith) (omega arith) e

-- the first calls of a list have led from one store and shelf to another, and their answers stand at the front
pub record SoFar {I K R : Type 0} {i : Index.Ghosts I K} {k : Key.Ghosts K} (first now : Store I K i k) (handed left : List R) (calls : List (BasicCall K R)) (before after : List (Answer K R)) (m : ℕ) : Type 0 where
  pub long : length left ≡ length handed
  pub room : length after ≡ length before
  pub leads : (o : Numbers) (past : List (Exchange K R)) (own : List R) → Own own handed → Led first own o past
      → Led now (kept own handed left) o (exchanges (take m calls) (take m after) (length handed) past)
  pub alone : (o : Numbers) (past : List (Exchange K R)) (own : List R) → Own own handed → Led first own o past → (length handed ≡ length own → ⊥) → left ≡ handed
  pub rest : drop m after ≡ drop m before

module _ {I K R : Type 0} {i : Index.Ghosts I K} {k : Key.Ghosts K} (tot : Total k.order) (first : Store I K i k) (handed : List R) (calls : List (BasicCall K R)) (before : List (Answer K R)) where
  pub none_yet : SoFar first first handed handed calls before before 0
  none_yet = record {
    long = refl;
    room = refl;
    leads = λ o past own mine led. subst (λ sh. Led first sh o past) (sym (kept_same own handed mine)) led;
    alone = λ o past own mine led ne. refl;
    rest = refl;
  }

  -- where the shelf is not the store's own, its length is not the count of places
  other_length : (s : Store I K i k) (left : List R) (o : Numbers) (past : List (Exchange K R)) (own : List R) → length left ≡ length handed → (length handed ≡ length own → ⊥)
      → Led s (kept own handed left) o past → length left ≡ length (view s.table).places → ⊥
  other_length s left o past own el ne led e = go (eqb (length handed) (length own)) refl led
    where
      go : (b : Bool) → eqb (length handed) (length own) ≡ b → Led s (cond b left own) o past → ⊥
      go true h l = ne (eqb-true (length handed) (length own) h)
      go false h l =
          let n = reached_lengths k.order tot o past (state (view s.table) own) l.run in
          ne (sym el ∙ e ∙ n.0 ∙ sym n.1)

  pub one_more : (now now' : Store I K i k) (left left' : List R) (after : List (Answer K R)) (m : ℕ) (c : BasicCall K R) (a : Answer K R) → SoFar first now handed left calls before after m
      → m < length calls → m < length after → c ≡ get_or calls m c → length left' ≡ length left → LeadsOn (Basic c) a now now' left left' → LeftAlone now left left'
      → SoFar first now' handed left' calls before (set after m a) (m + 1)
  one_more now now' left left' after m c a so lt lt' ec el law astray = record {
    long = el ∙ so.long;
    room = length-set after m a ∙ so.room;
    leads = λ o past own mine led.
        let led' = so.leads o past own mine led in
        let mine' = own_kept own handed left (so.alone o past own mine led) in
        let on = (law o (exchanges (take m calls) (take m after) (length handed) past) (kept own handed left) mine' led').0 in
        let e1 = kept_kept own handed left left' so.long in
        let e0 : suc m ≡ m + 1 = omega arith in
        let e2 : exchange (Basic c) (length left) a ∷ exchanges (take m calls) (take m after) (length handed) past ≡ exchanges (take (m + 1) calls) (take (m + 1) (set after m a)) (length handed) past =
        ap (λ n. exchange (Basic c) n a ∷ exchanges (take m calls) (take m after) (length handed) past) so.long
        ∙ sym (exchanges_more calls after (length handed) past m c a lt lt' ec) ∙ ap (λ n. exchanges (take n calls) (take n (set after m a)) (length handed) past) e0 in
        subst (λ sh. Led now' sh o (exchanges (take (m + 1) calls) (take (m + 1) (set after m a)) (length handed) past)) e1
        (subst (λ longer. Led now' (kept (kept own handed left) left left') o longer) e2 on);
    alone = λ o past own mine led ne. astray (other_length now left o _ own so.long ne (so.leads o past own mine led)) ∙ so.alone o past own mine led ne;
    rest = drop-set-lt (m + 1) after m a (omega arith) ∙ sym (drop-drop 1 m after) ∙ ap (drop 1) so.rest ∙ drop-drop 1 m before;
  }

  pub all_made : (now : Store I K i k) (left : List R) (after : List (Answer K R)) (m n : ℕ) → m ≡ n → length calls ≡ n → SoFar first now handed left calls before after m
      → LeadsThrough calls (take n after) first now handed left
  all_made now left after m n e en so o past own mine led =
      let here : SoFar first now handed left calls before after n = subst (SoFar first now handed left calls before after) e so in
      let on = subst (λ made. Led now (kept own handed left) o (exchanges made (take n after) (length handed) past)) (take_all n calls (omega arith)) (here.leads o past own mine led) in
      (on, law_of_runs k.order tot o (exchanges calls (take n after) (length handed) past) (state (view now.table) (kept own handed left)) on.run)
