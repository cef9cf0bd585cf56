use Rattle.std.proofs.Common.{length, rules}
use Rattle.eval.proofs.Places.{place_within}
use Rattle.eval.proofs.evaluation.Evaluation.write.Goals as goal

pub bounds-values-i : goal.bounds-values-i
bounds-values-i g c = let lt = place_within c.args.i (length c.args.self.now.nodes.now) c.args.m (length c.args.self.now.stamps.now) _ c.requires.0.1 c.requires.0.0 c.requires.1 in search rules

pub overflow_add-value : goal.overflow_add-value
overflow_add-value g c = let lt = place_within c.args.i (length c.args.self.now.nodes.now) c.args.m (length c.args.self.now.stamps.now) _ c.requires.0.1 c.requires.0.0 c.requires.1 in search rules

pub overflow_mul-value : goal.overflow_mul-value
overflow_mul-value g c = let lt = place_within c.args.i (length c.args.self.now.nodes.now) c.args.m (length c.args.self.now.stamps.now) _ c.requires.0.1 c.requires.0.0 c.requires.1 in search rules

pub offset_bounds-values-i : goal.offset_bounds-values-i
offset_bounds-values-i g c = let lt = place_within c.args.i (length c.args.self.now.nodes.now) c.args.m (length c.args.self.now.stamps.now) _ c.requires.0.1 c.requires.0.0 c.requires.1 in search rules
