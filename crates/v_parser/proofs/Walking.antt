-- Steps of a parser beyond those of the theory.
use Rattle.std.proofs.Common.{◌≡◌, List, ◌∷◌}
use Rattle.rb_grammar.specs.Spelling.{At}
use Rattle.rb_grammar.specs.Forms.{Form, Non}
use Rattle.rb_grammar.specs.Readings.{Takes, Same}
use Rattle.rb_grammar.proofs.Following.{◌⟫◌}
use Rattle.rb_grammar.proofs.Barring.{Here}
use Rattle.rb_grammar.proofs.Steps.{opening, opened, apart, entering, seen}
use Rattle.v_design.specs.Lexemes.{Token}
use Rattle.v_syntax.specs.Grammar.{Terminal, Rule, rule, grammar}
use Rattle.v_parser.proofs.Firsts.{table, right}

abbrev pub Tokens : Type 0
Tokens = List (At Token)

-- a rule that begins with the token that comes next
pub opening_rule : {ms : List Terminal} {fs gs : List (Form Terminal Rule)} {a : Terminal} {x : Rule} {ts us : Tokens} {t : At Token} → Takes grammar a ts t us → opened table 32 (Here a) ms fs ≡ Non x ∷ gs
    → Same grammar ms fs ts (apart (rule x) gs) ts
opening_rule {a = a} k e = opening right (Here a) e (seen k) ⟫ entering
