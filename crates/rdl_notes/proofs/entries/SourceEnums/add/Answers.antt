use Rattle.std.proofs.Common.{sym}
use Rattle.std.specs.BTreeMap.{get}
use Rattle.std.specs.Ordering.{nat_cmp}
use Rattle.rdl_notes.proofs.Enumerating.{added, kept, none_of}
use Rattle.rdl_notes.proofs.entries.SourceEnums.add.Goals as goal

pub returns-in_ok-insert : goal.returns-in_ok-insert
returns-in_ok-insert c = λ es known.
    added c.args.self.now (record { by_place = c.insert.new.self }) es c.args.place c.args.entries (none_of (get nat_cmp c.args.self.now.by_place c.args.place) c.if-not-contains_key.ensures) c.in_ok-insert.ensures.updates.0 known

pub returns-else-not-contains_key : goal.returns-else-not-contains_key
returns-else-not-contains_key c = λ es known. kept c.args.self.now es c.args.place c.args.entries.now (sym c.if-not-contains_key.ensures) known
