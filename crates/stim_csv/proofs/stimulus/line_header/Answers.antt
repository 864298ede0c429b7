use Rattle.std.proofs.Common.{sym, ◌∙◌}
use Rattle.csv.specs.Records.{fields_of}
use Rattle.stim_csv.specs.Records.{records_left}
use Rattle.stim_csv.proofs.RecordsLeft.{at_start}
use Rattle.stim_csv.proofs.stimulus.line_header.Goals as goal

pub returns-in-Ok-clause-header : goal.returns-in-Ok-clause-header
returns-in-Ok-clause-header c =
    let taken = rw c.if-not-headed.false at c.in_ok-headed.ensures.taken in
    let all = at_start c.from_reader-reader.result c.args.line.now c.from_reader-reader.ensures.state c.from_reader-reader.ensures.source in
    record {
      names = fields_of c.next_record.new.cells;
      more = records_left c.next_record.new.reader;
      first = sym all ∙ taken;
      header_is = c.in-Ok.ensures.header;
      sound = c.in-Ok.ensures.sound;
    }
