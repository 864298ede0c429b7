-- A module with one assignment, for the test: its tree and its tokens.
use Rattle.std.specs.Prelude.{ℕ, List, [], ◌∷◌, codes}
use Rattle.rb_base.specs.declared.ports.Dir.TheVariants.{In, Out}
use Rattle.rb_grammar.specs.Spelling.{At}
use Rattle.v_design.specs.Lexemes.{Token, Name, Word}
use Rattle.v_design.specs.Tree.{Tree, Assign, Plain, Whole}

-- module m(input a,output b);assign b=a;endmodule
abbrev pub sample : Tree
sample = record {
  name = codes "m";
  ports = record { dir = In; name = codes "a"; width = 1 } ∷ record { dir = Out; name = codes "b"; width = 1 } ∷ [];
  decls = [];
  stmts = Assign (codes "b") (Plain (Whole (codes "a"))) ∷ [];
}

abbrev pub placed_at : ℕ → Token → At Token
placed_at place token = record { token = token; place = place }

-- its tokens, each where its lexeme stands
abbrev pub sample_tokens : List (At Token)
sample_tokens = placed_at 0 (Word (codes "module")) ∷ placed_at 7 (Name (codes "m")) ∷ placed_at 8 (Word (codes "(")) ∷ placed_at 9 (Word (codes "input"))
    ∷ placed_at 15 (Name (codes "a")) ∷ placed_at 16 (Word (codes ",")) ∷ placed_at 17 (Word (codes "output")) ∷ placed_at 24 (Name (codes "b"))
    ∷ placed_at 25 (Word (codes ")")) ∷ placed_at 26 (Word (codes ";")) ∷ placed_at 27 (Word (codes "assign")) ∷ placed_at 34 (Name (codes "b"))
    ∷ placed_at 35 (Word (codes "=")) ∷ placed_at 36 (Name (codes "a")) ∷ placed_at 37 (Word (codes ";")) ∷ placed_at 38 (Word (codes "endmodule")) ∷ []
