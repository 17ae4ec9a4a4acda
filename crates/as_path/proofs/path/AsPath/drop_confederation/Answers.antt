use Rattle.std.proofs.Common.{not, rules}
use Rattle.std.proofs.lemmas.List.Elements.{filter_from_retain}
use Rattle.bmp_specs.specs.MergedPath.{is_confederation}
use Rattle.as_path.proofs.path.AsPath.drop_confederation.Goals as goal

pub returns : goal.returns
returns c = rw (← c.self.view_is) (filter_from_retain _ (λ segment. not (is_confederation segment.kind)) (λ p x b q h. search (rules, h)) _ _ _ c.retain.ensures)
