-- Which kinds of words may come at a state of the grammar of a dump, and where they lead.
use Rattle.std.specs.List.{find}
use Rattle.std.specs.Prelude.{ℕ, if◌then◌else◌, Option, Some, None, option_and_then, List, [], ◌∷◌}
use Rattle.vcd_syntax.specs.declared.kind.Kind.{Kind}
use Rattle.vcd_syntax.specs.declared.kind.Kind.TheVariants as kind
use Rattle.vcd_syntax.specs.Words.{is}
use Rattle.vcd_syntax.specs.Grammar.{same}
use Rattle.vcd_syntax.specs.declared.state.State.{State}
use Rattle.vcd_syntax.specs.declared.state.State.TheVariants.{Front, FrontSaid, ScopeKind, ScopeName, ScopeEnd, Variables, VariablesSaid, NetKind, Width, Code, Name, Range, VarEnd, UpscopeEnd, Back, BackSaid, DefinitionsEnd, Entries, Taker, Dump, DumpTaker, Commented}

abbrev pub exits : State → List (Kind × State)
exits Front = (kind.Heading, FrontSaid) ∷ (kind.Scope, ScopeKind) ∷ []
exits FrontSaid = (kind.End, Front) ∷ (kind.Said, FrontSaid) ∷ []
exits ScopeKind = (kind.ScopeKind, ScopeName) ∷ []
exits ScopeName = (kind.ScopeName, ScopeEnd) ∷ []
exits ScopeEnd = (kind.End, Variables) ∷ []
exits Variables = (kind.Heading, VariablesSaid) ∷ (kind.Var, NetKind) ∷ (kind.Upscope, UpscopeEnd) ∷ []
exits VariablesSaid = (kind.End, Variables) ∷ (kind.Said, VariablesSaid) ∷ []
exits NetKind = (kind.NetKind, Width) ∷ []
exits Width = (kind.Width, Code) ∷ []
exits Code = (kind.Code, Name) ∷ []
exits Name = (kind.Name, Range) ∷ []
exits Range = (kind.Range, VarEnd) ∷ (kind.End, Variables) ∷ []
exits VarEnd = (kind.End, Variables) ∷ []
exits UpscopeEnd = (kind.End, Back) ∷ []
exits Back = (kind.Heading, BackSaid) ∷ (kind.EndDefinitions, DefinitionsEnd) ∷ []
exits BackSaid = (kind.End, Back) ∷ (kind.Said, BackSaid) ∷ []
exits DefinitionsEnd = (kind.End, Entries) ∷ []
exits Entries = (kind.Scalar, Entries) ∷ (kind.Bits, Taker) ∷ (kind.Time, Entries) ∷ (kind.DumpVars, Dump) ∷ (kind.Comment, Commented) ∷ []
exits Taker = (kind.Taker, Entries) ∷ []
exits Dump = (kind.Scalar, Dump) ∷ (kind.Bits, DumpTaker) ∷ (kind.End, Entries) ∷ []
exits DumpTaker = (kind.Taker, Dump) ∷ []
exits Commented = (kind.End, Entries) ∷ (kind.Said, Commented) ∷ []

-- where a kind leads
abbrev pub leads : List (Kind × State) → Kind → Option State
leads [] k = None
leads (x ∷ xs) k = if same x.0 k then Some x.1 else leads xs k

abbrev pub after : State → Kind → Option State
after s k = leads (exits s) k

-- where kinds lead in turn
abbrev pub after_all : State → List Kind → Option State
after_all s [] = Some s
after_all s (k ∷ ks) = option_and_then (λ t. after_all t ks) (after s k)

-- the exit that a word takes
abbrev pub exit_by : State → List ℕ → Option (Kind × State)
exit_by s word = find (λ x. is x.0 word) (exits s)
