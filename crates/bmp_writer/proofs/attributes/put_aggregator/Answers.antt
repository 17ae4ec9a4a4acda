use Rattle.std.proofs.lemmas.Result.{on_ok_weaker}
use Rattle.bmp_specs.specs.declared.wire.Width.TheVariants.{Four}
use Rattle.bmp_specs.specs.Attributes.{IsAggregator}
use Rattle.bmp_writer.proofs.AttributesRead.{some_put}
use Rattle.bmp_writer.proofs.attributes.put_aggregator.Goals as goal

pub returns-in-Some-clause-ok : goal.returns-in-Some-clause-ok
returns-in-Some-clause-ok c = on_ok_weaker c.put_attribute.result (some_put _ _ (IsAggregator Four) c.args.aggregator c.in-Some.aggregator c.aggregator_octets-octets.result c.args.out.now c.put_attribute.new.out c.in-Some.is c.aggregator_octets-octets.ensures) c.put_attribute.ensures.ok
