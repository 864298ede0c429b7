use Rattle.csv.specs.Records.{fields_of}
use Rattle.stim_csv.proofs.RecordsLeft.{record_taken, record_missed}
use Rattle.stim_csv.proofs.records.next_record.Goals as goal

pub returns-then-found-clause-taken : goal.returns-then-found-clause-taken
returns-then-found-clause-taken c =
    record_taken c.args.reader.now c.read_byte_record.new.self (fields_of c.read_byte_record.new.row) c.requires
    (rw c.if-found.true at (c.in-Ok.ensures.reads c.requires.untrimmed c.requires.ready))

pub returns-clause-taken : goal.returns-clause-taken
returns-clause-taken c = (
  record_missed c.args.reader.now c.read_byte_record.new.self (fields_of c.read_byte_record.new.row) c.requires
      (rw c.if-found.false at (c.in-Ok.ensures.reads c.requires.untrimmed c.requires.ready)),
  c.clear.ensures.fields,
)
