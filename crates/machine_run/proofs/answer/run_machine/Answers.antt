use Rattle.std.proofs.Common.{refl, subst}
use Rattle.rb_model.specs.Protocol.{KeepsProtocol}
use Rattle.stim_csv.specs.Buses.{IsFirstBreak}
use Rattle.machine_run.proofs.Tables.{tables_fit}
use Rattle.machine_run.proofs.Watching.{first_buses, have_buses}
use Rattle.machine_run.proofs.answer.run_machine.Goals as goal

pub protocol-requires : goal.protocol-requires
protocol-requires c = have_buses c.args.block.now c.in-Ok.table (tables_fit c.args.block.now c.requires c.args.stimulus.now c.in-Ok.table c.in-Ok.ensures.ok)

pub machine_text-requires-clause-fit : goal.machine_text-requires-clause-fit
machine_text-requires-clause-fit c = tables_fit c.args.block.now c.requires c.args.stimulus.now c.in-Ok.table c.in-Ok.ensures.ok

pub returns-in-Some-clause-err : goal.returns-in-Some-clause-err
returns-in-Some-clause-err c =
    let b = c.args.block.now in
    let fit = tables_fit b c.requires c.args.stimulus.now c.in-Ok.table c.in-Ok.ensures.ok in
    record {
      vectors = c.in-Ok.table;
      table = c.in-Ok.ensures.ok;
      first = subst (λ bs. IsFirstBreak b.waits bs c.in-Some.row) (first_buses b c.in-Ok.table fit) c.in-Some.ensures.broken;
    }

pub returns-clause-ok : goal.returns-clause-ok
returns-clause-ok c =
    let b = c.args.block.now in
    let fit = tables_fit b c.requires c.args.stimulus.now c.in-Ok.table c.in-Ok.ensures.ok in
    let ran = c.in_ok-machine_text-in-None.ensures in
    record {
      vectors = c.in-Ok.table;
      table = c.in-Ok.ensures.ok;
      kept = subst (λ bs. KeepsProtocol b.waits bs) (first_buses b c.in-Ok.table fit) (c.in-None.ensures.kept refl);
      results = ran.0;
      run = ran.1;
      printed = ran.2;
    }
