use Rattle.std.proofs.Common.{◌++◌, subst, sym, take}
use Rattle.std.proofs.lemmas.Result.{on_ok_weaker}
use Rattle.rdl_values.specs.Overlaid.{names_in, overlaid}
use Rattle.rdl_values.specs.Reads.{Reads}
use Rattle.rdl_values.proofs.Reading.{reads_both}
use Rattle.rdl_values.proofs.reads.«+read».Goals as goal

pub returns-in_ok-read-in-Binary-clause-read_ : goal.returns-in_ok-read-in-Binary-clause-read_
returns-in_ok-read-in-Binary-clause-read_ t c = on_ok_weaker c.read-in-Binary-2.result (λ right xs k b h.
    let bound = overlaid (take k xs) b in
    let left = c.in_ok-read-in-Binary.ensures.read_ xs k b h in
    subst (λ e. Reads bound (names_in e) c.args.table.now.bound c.read-in-Binary-2.new.table.bound) (sym c.in-Binary.is) (reads_both bound _ _ _ (names_in c.in-Binary.left.now) (names_in c.in-Binary.right.now) left (right xs k b h))) c.read-in-Binary-2.ensures.read_

pub returns-in_ok-read-in-Pick-2-clause-read_ : goal.returns-in_ok-read-in-Pick-2-clause-read_
returns-in_ok-read-in-Pick-2-clause-read_ t c = on_ok_weaker c.read-in-Pick-3.result (λ other xs k b h.
    let bound = overlaid (take k xs) b in
    let test = c.in_ok-read-in-Pick.ensures.read_ xs k b h in
    let chosen = c.in_ok-read-in-Pick-2.ensures.read_ xs k b h in
    let sides = reads_both bound _ _ _ (names_in c.in-Pick.chosen.now) (names_in c.in-Pick.other.now) chosen (other xs k b h) in
    subst (λ e. Reads bound (names_in e) c.args.table.now.bound c.read-in-Pick-3.new.table.bound) (sym c.in-Pick.is) (reads_both bound _ _ _ (names_in c.in-Pick.test.now) (names_in c.in-Pick.chosen.now ++ names_in c.in-Pick.other.now) test sides)) c.read-in-Pick-3.ensures.read_
