use Rattle.std.proofs.Common.{sym, subst}
use Rattle.rov_table.specs.declared.vrp.VrpFault.{VrpFault}
use Rattle.station_top.specs.Rov.{IsRefused}
use Rattle.station_top.specs.Station.{badfile_line}
use Rattle.station_top.specs.declared.status.Status.TheVariants.{BadFile}
use Rattle.station_top.proofs.Concluding.{is_written}
use Rattle.station_top.proofs.rov.refuse.Goals as goal

pub returns-in-Bad-clause-told : goal.returns-in-Bad-clause-told
returns-in-Bad-clause-told g c =
    subst (λ (fault : VrpFault). IsRefused (g.O.Sink.told c.args.out.now) (g.O.Sink.told c.put_badfile.new.out) fault c.unless_failed.result) (sym c.in-Bad.is)
    (is_written c.args.out.now c.put_badfile.new.out (badfile_line c.in-Bad.line) c.put_badfile.result BadFile c.unless_failed.result c.put_badfile.ensures c.unless_failed.ensures.fine c.unless_failed.ensures.failed)
