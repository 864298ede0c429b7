use Rattle.std.proofs.Common.{◌+◌, length, sym, subst, arith, rules}
use Rattle.vcd_reader.specs.Fronts.{word_of}
use Rattle.vcd_reader.specs.Walks.{IsWalked}
use Rattle.vcd_reader.proofs.Walking.{walk_begins, next_mark, past_name, past_other, name_found, never_stuck, no_name, some_left}
use Rattle.vcd_reader.proofs.naming.variable_name.Goals as goal
use Rattle.vcd_reader.proofs.naming.variable_name.Goals.{in-Name+else-left-eq0, in_default-kind}

pub words-init : goal.words-init
words-init c = record { inside = omega arith; walked = λ ms s. walk_begins c.args.bytes.now ms c.args.number s }

pub word_behind-requires-clause-inside : goal.word_behind-requires-clause-inside
word_behind-requires-clause-inside c = c.words.invariant.inside

pub word_behind-requires-clause-short : goal.word_behind-requires-clause-short
word_behind-requires-clause-short c = c.requires

pub returns-in_err-kind : goal.returns-in_err-kind
returns-in_err-kind c = λ ms s. absurd
    (never_stuck c.args.bytes.now ms c.words.at c.words.state c.words.left c.args.number (word_of c.in-Some.word)
    (next_mark c.args.bytes.now ms c.words.at c.words.state c.words.left c.args.number (word_of c.in-Some.word) s (c.words.invariant.walked ms s) c.in-Some.ensures.some) (sym c.in_err-kind.ensures))

pub returns-then-left-eq0 : goal.returns-then-left-eq0
returns-then-left-eq0 c = λ ms s.
    name_found c.args.bytes.now ms c.words.at c.words.state c.in_ok-kind.to c.in_ok-kind.kind c.words.left c.args.number (word_of c.in-Some.word)
    (next_mark c.args.bytes.now ms c.words.at c.words.state c.words.left c.args.number (word_of c.in-Some.word) s (c.words.invariant.walked ms s) c.in-Some.ensures.some) (sym c.in_ok-kind.ensures) c.in-Name.is c.if-left-eq0.true

pub overflow_sub-left : goal.overflow_sub-left
overflow_sub-left c = search rules

pub overflow_cast-at : goal.overflow_cast-at
overflow_cast-at c = search rules

pub overflow_add-at : goal.overflow_add-at
overflow_add-at c = let b = c.in-Some.ensures.some in omega (arith, b.within, c.requires)

pub words-smaller : goal.words-smaller
words-smaller c = let b = c.in-Some.ensures.some in omega (arith, b.within, b.further)

pub words-preserved : goal.words-preserved
words-preserved c =
    let text = c.args.bytes.now in
    let w = word_of c.in-Some.word in
    let b = c.in-Some.ensures.some in
    record {
      inside = b.within;
      walked = λ ms s.
          let n = next_mark text ms c.words.at c.words.state c.words.left c.args.number w s (c.words.invariant.walked ms s) b in
          elim c.match-kind.branch [
            | in-Name+else-left-eq0 x ↦ subst (λ z. IsWalked text ms (w.place + length w.token) c.in_ok-kind.to z c.args.number) (sym x.left-is)
                (past_name text ms c.words.at c.words.state c.in_ok-kind.to c.in_ok-kind.kind c.words.left c.args.number w n (sym c.in_ok-kind.ensures) x.in-Name.is (some_left c.words.left x.if-left-eq0.false))
            | in_default-kind x ↦ subst (λ z. IsWalked text ms (w.place + length w.token) c.in_ok-kind.to z c.args.number) (sym x.left-is)
                (past_other text ms c.words.at c.words.state c.in_ok-kind.to c.in_ok-kind.kind c.words.left c.args.number w n (sym c.in_ok-kind.ensures) x.in_default-kind.not-Name)
          ];
    }

pub returns : goal.returns
returns c = λ ms s. no_name c.args.bytes.now ms c.words.at c.words.state c.words.left c.args.number s (c.words.invariant.walked ms s) c.in_default.ensures.none
