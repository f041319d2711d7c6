-- The two ends of `find` and the turn of its loop, one lemma each.
use Rattle.std.proofs.Common.{Some, ap, ◌∙◌}
use Rattle.tree_index.proofs.Lookups.{Finds, find_ends, find_finds, find_turns, turns_end}
use Rattle.tree_index.proofs.Soundness.{held_apart}
use Rattle.tree_index.proofs.tree.SearchTreeIndex.find.Goals as goal

pub returns-in_default-of-clause-answer : goal.returns-in_default-of-clause-answer
returns-in_default-of-clause-answer g c =
    ap Some c.from.ensures ∙ find_finds g.K.Key.order g.met.K.Key.total _ _ c.loop-found.at _ c.loop-found.invariant c.in-Some.found c.in-Some.ensures.answer _ c.compare.ensures.answer c.in_default-of.ensures.answer c.args.self.now.sound

pub returns-in_default-of-clause-apart : goal.returns-in_default-of-clause-apart
returns-in_default-of-clause-apart g c = held_apart g.K.Key.order g.met.K.Key.total _ _ c.args.self.now.sound

pub loop-found-smaller : goal.loop-found-smaller
loop-found-smaller g c =
    turns_end g.K.Key.order g.met.K.Key.total _ _ c.loop-found.at (Finds c.args.key) (λ a. a) c.loop-found.invariant c.in-Some.found c.in-Some.ensures.answer c.in-Some-of.side _ c.child-at.ensures.answer c.args.self.now.sound

pub loop-found-preserved : goal.loop-found-preserved
loop-found-preserved g c =
    find_turns g.K.Key.order g.met.K.Key.total _ c.args.self.now.root c.loop-found.at _ c.loop-found.invariant c.in-Some.found c.in-Some.ensures.answer _ c.compare.ensures.answer c.in-Some-of.side _ c.in-Some-of.ensures.answer c.child-at.ensures.answer

pub returns-clause-answer : goal.returns-clause-answer
returns-clause-answer g c = find_ends g.K.Key.order g.met.K.Key.total _ _ c.loop-found.at _ c.loop-found.invariant c.in_default.ensures.answer c.args.self.now.sound

pub returns-clause-apart : goal.returns-clause-apart
returns-clause-apart g c = held_apart g.K.Key.order g.met.K.Key.total _ _ c.args.self.now.sound
