-- The begin of a report and of a job, and the end of a report, are the ledger's.
use Rattle.std.proofs.Common.{◌≡◌, ℕ, List, [], ◌∷◌, ◌++◌, map, Some, None, Option, Result, Ordering, sym, refl, ◌∙◌, subst, zero-le}
use Rattle.std.proofs.ByRecursion.{All-push}
use Rattle.std.proofs.lemmas.List.{length-map, length-replicate, map-append, append-nil, flat_map_more}
use Rattle.keys.specs.Refusals.{told}
use Rattle.ledger.specs.declared.call.TicketId.{TicketId}
use Rattle.ledger.specs.declared.call.Call.TheVariants.{Basic}
use Rattle.ledger.specs.declared.call.BasicCall.TheVariants.{BeginReport, BeginJob, End}
use Rattle.ledger.specs.declared.answer.Granted.TheVariants.{Report as Begun, Job as BegunJob, Done}
use Rattle.ledger.specs.declared.answer.Refusal.{Refusal}
use Rattle.ledger.specs.Refusals.{code}
use Rattle.ledger.specs.Limits.{row_entries}
use Rattle.table.specs.declared.row.Row.{Row}
use Rattle.table.specs.Lists.{with_ticket}
use Rattle.table.specs.Rows.{no_entry, new_row}
use Rattle.table.specs.Views.{View, if_granted, report_number, row_number, open_report}
use Rattle.table.specs.Checks.{checked, report_open}
use Rattle.table.specs.Begins.{begin_report_checks, begin_job_checks, next_ticket, report_opened, job_opened, report_closed}
use Rattle.bridge.specs.Answers.{answer_of}
use Rattle.bridge.specs.States.{job_in, jobs_in}
use Rattle.bridge.specs.Soundness.{Apart, RowFits, Notes, all_keys, Sound}
use Rattle.bridge.proofs.Apart.{given_one, given_else, given_kept}
use Rattle.bridge.proofs.Tickets.{without_is, with_more, others}
use Rattle.bridge.proofs.Checks.{stamp_of_is, some_mapped}
use Rattle.bridge.proofs.Outcomes.{Goes, by_checks}

report_opened_sound : {K : Type 0} (v : View K) → Sound v → Sound (report_opened v)
report_opened_sound v s = record {
  stamp = s.stamp;
  reports = rw (map-append report_number v.reports _) (given_one v.next (map report_number v.reports) s.reports);
  jobs = given_else v.next (map row_number v.jobs) s.jobs;
  rows = s.rows;
}

job_opened_sound : {K : Type 0} (v : View K) → Sound v → Sound (job_opened v)
job_opened_sound {K} v s = record {
  stamp = s.stamp;
  reports = given_else v.next (map report_number v.reports) s.reports;
  jobs = rw (map-append row_number v.jobs _) (given_one v.next (map row_number v.jobs) s.jobs);
  rows = record {
    fit = All-push (RowFits v.places) v.jobs (new_row v.next) s.rows.fit (record { entries = tt; used = zero-le; long = length-replicate row_entries no_entry });
    apart = subst Apart (sym keys) s.rows.apart;
    noted = λ n t k d. more n t (with_ticket row_number t v.jobs) refl (s.rows.noted n t k d);
  };
}
  where
    keys : all_keys (jobs_in v.places (v.jobs ++ (new_row v.next ∷ []))) ≡ all_keys (jobs_in v.places v.jobs)
    keys = rw (map-append (job_in v.places) v.jobs (new_row v.next ∷ [])) (sym (flat_map_more (λ j. j.keys) [] (jobs_in v.places v.jobs) (job_in v.places (new_row v.next))) ∙ append-nil (all_keys (jobs_in v.places v.jobs)))

    more : (n t : ℕ) (o : Option Row) → with_ticket row_number t v.jobs ≡ o → Notes n o → Notes n (with_ticket row_number t (v.jobs ++ (new_row v.next ∷ [])))
    more n t None e h = absurd h
    more n t (Some row) e h = subst (Notes n) (sym (with_more row_number t v.jobs (new_row v.next ∷ []) row e)) h

report_closed_sound : {K : Type 0} (v : View K) (t : TicketId) → Sound v → Sound (report_closed v t)
report_closed_sound v t s = record {
  stamp = s.stamp;
  reports = rw (without_is report_number t.number v.reports s.reports.0) (given_kept report_number (others report_number t.number) v.next v.reports s.reports);
  jobs = s.jobs;
  rows = s.rows;
}

module _ {K R : Type 0} (order : K → K → Ordering) (v : View K) (own : List R) (n : ℕ) (s : Sound v) where
  pub begin_report_goes : (r : Result (TicketId × ℕ) Refusal) → told code r ≡ checked (begin_report_checks v) (next_ticket v, v.stamp)
      → Goes order v own (Basic BeginReport) n (answer_of (λ p. Begun p.0 p.1) r) (if_granted r (report_opened v) v) own
  begin_report_goes r er = by_checks order v (report_opened v) own (Basic BeginReport) n (λ p. Begun p.0 p.1) (begin_report_checks v) (next_ticket v, v.stamp) r refl er s
      (λ e. (record { answer = refl; control = refl; moves = (refl, refl) }, report_opened_sound v s))

  pub begin_job_goes : (r : Result TicketId Refusal) → told code r ≡ checked (begin_job_checks v) (next_ticket v)
      → Goes order v own (Basic BeginJob) n (answer_of (λ t. BegunJob t) r) (if_granted r (job_opened v) v) own
  begin_job_goes r er = by_checks order v (job_opened v) own (Basic BeginJob) n (λ t. BegunJob t) (begin_job_checks v) (next_ticket v) r (rw (length-map v.jobs (job_in v.places))) er s
      (λ e. (record { answer = refl; control = rw (map-append (job_in v.places) v.jobs (new_row v.next ∷ [])); moves = (refl, refl) }, job_opened_sound v s))

  pub end_goes : (t : TicketId) (r : Result Unit Refusal) → told code r ≡ checked (report_open v t ∷ []) tt
      → Goes order v own (Basic (End t)) n (answer_of (λ u. Done) r) (if_granted r (report_closed v t) v) own
  end_goes t r er = by_checks order v (report_closed v t) own (Basic (End t)) n (λ u. Done) (report_open v t ∷ []) tt r (rw (stamp_of_is v t, some_mapped (λ r. r.stamp) (open_report v t))) er s
      (λ e. (record { answer = refl; control = rw (without_is report_number t.number v.reports s.reports.0); moves = (refl, refl) }, report_closed_sound v t s))
