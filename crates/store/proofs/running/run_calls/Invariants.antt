use Rattle.store.proofs.Listing.{SoFar}
use Rattle.store.proofs.running.run_calls.Given as goal

-- the calls so far have led on, and their answers stand at the front
abbrev pub invariant-loop-i : goal.invariant-loop-i
invariant-loop-i g l = SoFar l.initial.store l.store l.initial.shelf l.shelf l.call-items l.initial.answers l.answers l.i
