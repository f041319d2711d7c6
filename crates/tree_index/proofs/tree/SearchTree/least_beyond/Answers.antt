-- The end of `least_beyond` and the two turns of its loop, one lemma each.
use Rattle.std.proofs.Common.{refl}
use Rattle.std.proofs.lemmas.Bool.{both_ways}
use Rattle.tree_index.proofs.Lookups.{LeastIn, least_ends, least_left, least_right, or_else, turns_end}
use Rattle.tree_index.specs.declared.link.Side.TheVariants.{Left, Right}
use Rattle.tree_index.proofs.tree.SearchTree.least_beyond.Goals as goal

pub loop-found-smaller-then-is_beyond : goal.loop-found-smaller-then-is_beyond
loop-found-smaller-then-is_beyond g c =
    turns_end g.K.Key.order g.met.K.Key.total _ _ c.loop-found.at (LeastIn g.K.Key.order c.args.given) (λ a. or_else a c.loop-found.best) c.loop-found.invariant
    c.in-Some.found c.in-Some.ensures.answer Left _ refl c.args.self.now.sound

pub loop-found-preserved-then-is_beyond : goal.loop-found-preserved-then-is_beyond
loop-found-preserved-then-is_beyond g c =
    rw c.from.ensures (least_left g.K.Key.order g.met.K.Key.total _ c.args.self.now.root c.loop-found.at c.args.given c.loop-found.best c.loop-found.invariant c.in-Some.found c.in-Some.ensures.answer (c.if-is_beyond.ensures.answer.0 refl))

pub loop-found-smaller : goal.loop-found-smaller
loop-found-smaller g c =
    turns_end g.K.Key.order g.met.K.Key.total _ _ c.loop-found.at (LeastIn g.K.Key.order c.args.given) (λ a. or_else a c.loop-found.best) c.loop-found.invariant
    c.in-Some.found c.in-Some.ensures.answer Right _ refl c.args.self.now.sound

pub loop-found-preserved : goal.loop-found-preserved
loop-found-preserved g c =
    least_right g.K.Key.order g.met.K.Key.total _ c.args.self.now.root c.loop-found.at c.args.given c.loop-found.best c.loop-found.invariant c.in-Some.found c.in-Some.ensures.answer
    (λ b. both_ways c.is_beyond.result c.if-is_beyond.false (c.is_beyond.ensures.answer.1 b))

pub returns : goal.returns
returns g c =
    record { answer = least_ends g.K.Key.order g.met.K.Key.total _ _ c.loop-found.at c.args.given _ c.loop-found.invariant g.row.K.coded c.in_default.ensures.answer c.args.self.now.sound }
