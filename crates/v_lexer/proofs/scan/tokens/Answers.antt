use Rattle.std.proofs.Common.{◌∙◌, arith}
use Rattle.v_design.specs.Lexemes.{verilog}
use Rattle.v_syntax.specs.Tokens.{placed}
use Rattle.rb_grammar.proofs.Lexing.{starts_shorter}
use Rattle.v_lexer.specs.Reading.{IsOfItsClass, spot_of}
use Rattle.v_lexer.proofs.Scans.{next_spelled, whole_here, broken_here, behind_more, text_is, spotted_is, class_is, short, all_more}
use Rattle.v_lexer.proofs.scan.tokens.Goals as goal

pub returns-in-Err-clause-scans : goal.returns-in-Err-clause-scans
returns-in-Err-clause-scans c = let i = c.more.invariant in
    broken_here c.more.lexer.size c.args.bytes.now c.more.lexer.rest (placed c.args.bytes.now c.more.tokens.items) c.in-Err.fault.place.0 i.size i.spells (c.in-Err.ensures.fault i.so_far)

pub returns-in-Ok-None-clause-scans : goal.returns-in-Ok-None-clause-scans
returns-in-Ok-None-clause-scans c = let i = c.more.invariant in
    let ends = rw c.in-Ok-None.field-0-is at c.in-Ok-None.ensures.end in
    whole_here c.more.lexer.size c.args.bytes.now c.more.lexer.rest (placed c.args.bytes.now c.more.tokens.items) i.size i.spells ends.0

pub more-smaller : goal.more-smaller
more-smaller c = let start = rw c.in-Ok-Some.field-0-is at c.in-Ok-Some.ensures.token in
    starts_shorter verilog _ _ _ _ start

pub spot_of-requires : goal.spot_of-requires
spot_of-requires c =
    let stands = rw c.in-Ok-Some.field-0-is at c.in-Ok-Some.ensures.text in
    omega (arith, c.requires, short c.more.lexer.size c.in-Ok-Some.token.place.0 c.args.bytes.now c.more.lexer.rest c.in-Ok-Some.token.text.now c.next.new.self.rest c.more.invariant.behind stands)

pub more-preserved : goal.more-preserved
more-preserved c =
    let i = c.more.invariant in
    let t = c.in-Ok-Some.token in
    let start = rw c.in-Ok-Some.field-0-is at c.in-Ok-Some.ensures.token in
    let stands = rw c.in-Ok-Some.field-0-is at c.in-Ok-Some.ensures.text in
    let kind = rw c.in-Ok-Some.field-0-is at c.in-Ok-Some.ensures.kind in
    let meant = rw c.in-Ok-Some.field-0-is at c.in-Ok-Some.ensures.meant in
    let pushed = rw c.spot_of.ensures at c.in_ok-push-in-Ok-Some.ensures.items in
    let text = text_is c.more.lexer.size c.args.bytes.now c.more.lexer.rest c.next.new.self.rest t i.size i.behind stands in
    record {
      size = c.in-Ok-Some.ensures.size ∙ i.size;
      so_far = c.in-Ok-Some.ensures.remembered;
      spells = next_spelled c.more.lexer.size c.args.bytes.now c.more.lexer.rest c.next.new.self.rest c.more.tokens.items c.push.new.self.items (spot_of t) _ pushed (spotted_is c.args.bytes.now t text kind meant) i.size i.spells start;
      behind = behind_more c.more.lexer.size t.place.0 c.args.bytes.now c.more.lexer.rest t.text.now c.next.new.self.rest i.behind stands;
      classes = all_more (IsOfItsClass c.args.bytes.now) c.more.tokens.items c.push.new.self.items (spot_of t) pushed i.classes (class_is c.args.bytes.now t text kind);
    }
