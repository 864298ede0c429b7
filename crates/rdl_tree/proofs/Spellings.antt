-- Marks and reserved words are told apart by their spellings.
use Rattle.std.specs.List.{find, list_any}
use Rattle.std.specs.Str.{bytes_eq}
use Rattle.std.specs.Cmp.Lexicographic.{bytes_decides}
use Rattle.std.proofs.Common.{◌≡◌, ℕ, Bool, true, false, ◌||◌, cond, Option, Some, None, List, [], ◌∷◌, map, refl, ap, sym, ◌∙◌}
use Rattle.std.proofs.lemmas.Bool.Decides.{same_from_decides}
use denote.Enum.Declared.{Declared}
use denote.Enum.Bare.{Bare, sameb, same_true, true_same}
use Rattle.rdl_base.specs.declared.keyword.Keyword.{Keyword}
use Rattle.rdl_base.specs.declared.keyword.Keyword.TheVariants as keyword
use Rattle.rdl_base.specs.Keywords.{word, keywords, reserved, is_reserved}
use Rattle.rdl_tree.specs.declared.token.Mark.{Mark}
use Rattle.rdl_tree.specs.declared.token.Mark.TheVariants as mark
use Rattle.rdl_tree.specs.declared.token.Terminal.{Terminal}
use Rattle.rdl_tree.specs.declared.token.Terminal.TheVariants as terminals
use Rattle.rdl_tree.specs.Tokens.{spelling, marks, mark_of, keyword_of, same}

pub mark_of-spelling : (m : Mark) → mark_of (spelling m) ≡ Some m
unfolding marks
mark_of-spelling mark.OpenBrace = refl
mark_of-spelling mark.CloseBrace = refl
mark_of-spelling mark.OpenBracket = refl
mark_of-spelling mark.CloseBracket = refl
mark_of-spelling mark.OpenParen = refl
mark_of-spelling mark.CloseParen = refl
mark_of-spelling mark.Semicolon = refl
mark_of-spelling mark.Colon = refl
mark_of-spelling mark.Comma = refl
mark_of-spelling mark.Dot = refl
mark_of-spelling mark.At = refl
mark_of-spelling mark.Hash = refl
mark_of-spelling mark.Equals = refl
mark_of-spelling mark.PlusEquals = refl
mark_of-spelling mark.PercentEquals = refl
mark_of-spelling mark.Arrow = refl
mark_of-spelling mark.Question = refl
mark_of-spelling mark.ColonColon = refl
mark_of-spelling mark.Not = refl
mark_of-spelling mark.Tilde = refl
mark_of-spelling mark.Quote = refl
mark_of-spelling mark.Plus = refl
mark_of-spelling mark.Minus = refl
mark_of-spelling mark.Star = refl
mark_of-spelling mark.Slash = refl
mark_of-spelling mark.Percent = refl
mark_of-spelling mark.StarStar = refl
mark_of-spelling mark.ShiftLeft = refl
mark_of-spelling mark.ShiftRight = refl
mark_of-spelling mark.Less = refl
mark_of-spelling mark.Greater = refl
mark_of-spelling mark.LessEqual = refl
mark_of-spelling mark.GreaterEqual = refl
mark_of-spelling mark.EqualEqual = refl
mark_of-spelling mark.NotEqual = refl
mark_of-spelling mark.AndAnd = refl
mark_of-spelling mark.OrOr = refl
mark_of-spelling mark.And = refl
mark_of-spelling mark.Or = refl
mark_of-spelling mark.Caret = refl

pub keyword_of-word : (k : Keyword) → keyword_of (word k) ≡ Some k
unfolding keywords
keyword_of-word keyword.Addrmap = refl
keyword_of-word keyword.Regfile = refl
keyword_of-word keyword.Reg = refl
keyword_of-word keyword.Field = refl
keyword_of-word keyword.Signal = refl
keyword_of-word keyword.Enum = refl
keyword_of-word keyword.Alias = refl
keyword_of-word keyword.Default = refl
keyword_of-word keyword.Internal = refl
keyword_of-word keyword.Posedge = refl
keyword_of-word keyword.Negedge = refl
keyword_of-word keyword.Bothedge = refl
keyword_of-word keyword.Level = refl
keyword_of-word keyword.Nonsticky = refl
keyword_of-word keyword.True = refl
keyword_of-word keyword.False = refl
keyword_of-word keyword.Longint = refl
keyword_of-word keyword.Bit = refl
keyword_of-word keyword.Unsigned = refl
keyword_of-word keyword.Boolean = refl
keyword_of-word keyword.String = refl
keyword_of-word keyword.Rw = refl
keyword_of-word keyword.Wr = refl
keyword_of-word keyword.R = refl
keyword_of-word keyword.W = refl
keyword_of-word keyword.Rw1 = refl
keyword_of-word keyword.W1 = refl
keyword_of-word keyword.Na = refl
keyword_of-word keyword.Woset = refl
keyword_of-word keyword.Woclr = refl
keyword_of-word keyword.Wot = refl
keyword_of-word keyword.Wzs = refl
keyword_of-word keyword.Wzc = refl
keyword_of-word keyword.Wzt = refl
keyword_of-word keyword.Wclr = refl
keyword_of-word keyword.Wset = refl
keyword_of-word keyword.Rclr = refl
keyword_of-word keyword.Rset = refl
keyword_of-word keyword.Compact = refl
keyword_of-word keyword.Regalign = refl
keyword_of-word keyword.Fullalign = refl
keyword_of-word keyword.Constraint = refl
keyword_of-word keyword.Mem = refl
keyword_of-word keyword.External = refl
keyword_of-word keyword.Struct = refl
keyword_of-word keyword.Abstract = refl
keyword_of-word keyword.Property = refl
keyword_of-word keyword.Ruser = refl
keyword_of-word keyword.Wuser = refl
keyword_of-word keyword.Accesstype = refl
keyword_of-word keyword.Addressingtype = refl
keyword_of-word keyword.Onreadtype = refl
keyword_of-word keyword.Onwritetype = refl

pub one_mark : (m n : Mark) → bytes_eq (spelling m) (spelling n) ≡ true → m ≡ n
one_mark m n e = let one : Some m ≡ Some n = sym (mark_of-spelling m) ∙ (ap mark_of ((bytes_decides (spelling m) (spelling n)).0 e) ∙ mark_of-spelling n) in cc

pub one_keyword : (k l : Keyword) → bytes_eq (word k) (word l) ≡ true → k ≡ l
one_keyword k l e = let one : Some k ≡ Some l = sym (keyword_of-word k) ∙ (ap keyword_of ((bytes_decides (word k) (word l)).0 e) ∙ keyword_of-word l) in cc

-- terminals are the same where they are equal
pub exact : (a b : Terminal) → same a b ≡ true → a ≡ b
exact terminals.Name terminals.Name e = refl
exact terminals.Number terminals.Number e = refl
exact terminals.Str terminals.Str e = refl
exact (terminals.Mark m) (terminals.Mark n) e = ap terminals.Mark (one_mark m n e)
exact (terminals.Reserved k) (terminals.Reserved l) e = ap terminals.Reserved (one_keyword k l e)
exact _ _ e = cc

pub alike : (a : Terminal) → same a a ≡ true
alike terminals.Name = refl
alike terminals.Number = refl
alike terminals.Str = refl
alike (terminals.Mark m) = (bytes_decides (spelling m) (spelling m)).1 refl
alike (terminals.Reserved k) = (bytes_decides (word k) (word k)).1 refl

-- the test that a derive writes is that of the spellings
pub by_spelling : (D : Declared) (bare : Bare D.parts) (spelled : D.D → List ℕ) (one : (a b : D.D) → bytes_eq (spelled a) (spelled b) ≡ true → a ≡ b) (a b : D.D) → sameb D a b ≡ bytes_eq (spelled a) (spelled b)
by_spelling D bare spelled one a b = same_from_decides {P = a ≡ b} (sameb D a b) (bytes_eq (spelled a) (spelled b)) (same_true D bare a b, true_same D a b) (one a b, λ e. (bytes_decides (spelled a) (spelled b)).1 (ap spelled e))

passed_over : (b : Bool) (k : Keyword) (more : Bool) (found : Option Keyword) → (b || more) ≡ false → (more ≡ false → found ≡ None) → cond b (Some k) found ≡ None
passed_over true k more found e h = cc
passed_over false k more found e h = h e

none_among : (text : List ℕ) (ks : List Keyword) → list_any (λ w. bytes_eq w text) (map word ks) ≡ false → find (λ k. bytes_eq (word k) text) ks ≡ None
none_among text [] e = refl
none_among text (k ∷ ks) e = passed_over (bytes_eq (word k) text) k _ _ e (none_among text ks)

-- what is no reserved word is no keyword
pub not_reserved : (text : List ℕ) → is_reserved text ≡ false → keyword_of text ≡ None
unfolding is_reserved reserved
not_reserved text e = none_among text keywords e
