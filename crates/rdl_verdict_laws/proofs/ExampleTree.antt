-- The tokens of the first example derive its tree.
use Rattle.std.proofs.Common.{◌≡◌, ℕ, List, [], ◌∷◌, None, Some, codes, IsTrue, refl}
use Rattle.rdl_base.specs.declared.keyword.Keyword.{Keyword}
use Rattle.rdl_base.specs.declared.keyword.Keyword.TheVariants as words
use Rattle.rb_grammar.specs.Readings.{Takes}
use Rattle.rdl_tree.specs.declared.expr.Expr.{Expr}
use Rattle.rdl_tree.specs.declared.expr.Expr.TheVariants as expr
use Rattle.rdl_tree.specs.declared.item.Def.{Def}
use Rattle.rdl_tree.specs.declared.item.Inst.{Inst}
use Rattle.rdl_tree.specs.declared.item.Item.{Item}
use Rattle.rdl_tree.specs.declared.item.Item.TheVariants as items
use Rattle.rdl_tree.specs.declared.item.Kind.TheVariants as kinds
use Rattle.rdl_tree.specs.declared.token.Mark.{Mark}
use Rattle.rdl_tree.specs.declared.token.Mark.TheVariants as marks
use Rattle.rdl_tree.specs.declared.token.Token.{Token}
use Rattle.rdl_tree.specs.declared.token.TokenKind.TheVariants as tokens_
use Rattle.rdl_tree.specs.declared.token.Terminal.{Terminal}
use Rattle.rdl_tree.specs.declared.token.Terminal.TheVariants as terminals
use Rattle.rdl_tree.specs.Grammar.{grammar}
use Rattle.rdl_tree.specs.Tokens.{is}
use Rattle.rdl_tree.specs.Tree as tree
use Rattle.rdl_verdict_laws.proofs.WorkedTrees.{lend, at, name, word, assign, inst, insts_of, component}
use Rattle.rdl_verdict_laws.proofs.ExampleTokens.{mark, word_token, tokens, at_reg, at_field, at_sw, at_hw, behind_hw, at_f, behind_field, at_a, behind_reg, behind_map}

took : (a : Terminal) (t : Token) (us : List Token) → IsTrue (is a t) → Takes grammar a (t ∷ us) t us
took a t us h = record { list = refl; token = h }

-- a name, a mark, a number
named : (t : Token) (us : List Token) → IsTrue (is terminals.Name t) → tree.IsName (t ∷ us) us (record { text = t.text; place = t.place })
named t us h = (t, took terminals.Name t us h, (refl, refl))

numbered : (n : ℕ) (t : Token) (us : List Token) → IsTrue (is terminals.Number t) → t.kind ≡ tokens_.Number n → tree.DerivesExpr (t ∷ us) us (expr.Number n t.place)
numbered n t us h e = tree.binary (tree.operand (tree.plain (tree.number (took terminals.Number t us h) e)))

abbrev sw : Item
sw = items.Local (assign (name (codes "sw") 28) None (word words.Rw) 28)

abbrev hw : Item
hw = items.Local (assign (name (codes "hw") 35) None (word words.R) 35)

-- NAME = WORD ; as a setting
set : (n e w s : Token) (k : Keyword) (us : List Token) → IsTrue (is terminals.Name n) → IsTrue (is (terminals.Mark marks.Equals) e) → IsTrue (tree.is_value k) → IsTrue (is (terminals.Reserved k) w) → IsTrue (is (terminals.Mark marks.Semicolon) s)
    → tree.DerivesItem (n ∷ e ∷ w ∷ s ∷ us) us (items.Local (record { prop = record { text = n.text; place = n.place }; trigger = None; value = word k; place = n.place }))
set n e w s k us hn he hk hw hs = tree.local (record {
  at = refl;
  local = tree.assigned (tree.name (named n (e ∷ w ∷ s ∷ us) hn)) (tree.some (took (terminals.Mark marks.Equals) e (w ∷ s ∷ us) he) (tree.word hk (took (terminals.Reserved k) w (s ∷ us) hw))) (took (terminals.Mark marks.Semicolon) s us hs);
})

sw_read : tree.DerivesItem at_sw at_hw sw
sw_read = set _ _ _ _ words.Rw at_hw refl refl refl refl refl

hw_read : tree.DerivesItem at_hw behind_hw hw
hw_read = set _ _ _ _ words.R behind_hw refl refl refl refl refl

abbrev f : Inst
f = record (inst (name (codes "f") 43)) { dims = lend (expr.Number 32 (at 45) ∷ []); reset = Some (lend (expr.Number 5 (at 51))) }

abbrev a : Inst
a = record (inst (name (codes "a") 60)) { at = Some (lend (expr.Number 0 (at 63))) }

abbrev field : Def
field = component kinds.Field None [] 20 (sw ∷ hw ∷ []) (Some (insts_of [] (f ∷ [])))

abbrev reg : Def
reg = component kinds.Reg None [] 14 (items.Def field ∷ []) (Some (insts_of [] (a ∷ [])))

abbrev map : Def
map = component kinds.Addrmap (Some (name (codes "one") 8)) [] 8 (items.Def reg ∷ []) None

semicolon : (t : Token) (us : List Token) → IsTrue (is (terminals.Mark marks.Semicolon) t) → tree.IsMark marks.Semicolon (t ∷ us) t us
semicolon t us h = took (terminals.Mark marks.Semicolon) t us h

f_read : tree.DerivesInst at_f (mark marks.Semicolon 56 ∷ behind_field) f
f_read = tree.inst {i = f} (named (word_token (codes "f") 43) _ refl)
    (tree.dims (tree.next_index (took (terminals.Mark marks.OpenBracket) _ _ refl) (numbered 32 _ _ refl refl) (took (terminals.Mark marks.CloseBracket) _ _ refl) tree.no_index))
    (tree.some (took (terminals.Mark marks.Equals) _ _ refl) (numbered 5 _ _ refl refl))
    tree.none tree.none tree.none

a_read : tree.DerivesInst at_a (mark marks.Semicolon 66 ∷ behind_reg) a
a_read = tree.inst {i = a} (named (word_token (codes "a") 60) _ refl) (tree.dims tree.no_index) tree.none
    (tree.some (took (terminals.Mark marks.At) _ _ refl) (numbered 0 _ _ refl refl))
    tree.none tree.none

field_read : tree.DerivesDef at_field behind_field field
field_read = tree.bare {k = words.Field} {kind = kinds.Field} {i = insts_of [] (f ∷ [])} {d = field} tree.none refl (took (terminals.Reserved words.Field) _ _ refl)
    (tree.body (took (terminals.Mark marks.OpenBrace) _ _ refl) (tree.next_item sw_read (tree.next_item hw_read tree.no_item)) (took (terminals.Mark marks.CloseBrace) _ _ refl))
    tree.none (tree.last f_read) (semicolon _ _ refl) refl refl refl refl refl refl

reg_read : tree.DerivesDef at_reg behind_reg reg
reg_read = tree.bare {k = words.Reg} {kind = kinds.Reg} {i = insts_of [] (a ∷ [])} {d = reg} tree.none refl (took (terminals.Reserved words.Reg) _ _ refl)
    (tree.body (took (terminals.Mark marks.OpenBrace) _ _ refl) (tree.next_item (tree.component field_read) tree.no_item) (took (terminals.Mark marks.CloseBrace) _ _ refl))
    tree.none (tree.last a_read) (semicolon _ _ refl) refl refl refl refl refl refl

map_read : tree.DerivesDef tokens [] map
map_read = tree.named {k = words.Addrmap} {kind = kinds.Addrmap} {n = name (codes "one") 8} {d = map} tree.none refl (took (terminals.Reserved words.Addrmap) _ _ refl) (named _ _ refl) tree.none
    (tree.body (took (terminals.Mark marks.OpenBrace) _ _ refl) (tree.next_item (tree.component reg_read) tree.no_item) (took (terminals.Mark marks.CloseBrace) _ _ refl))
    tree.none (semicolon _ _ refl) refl refl refl

pub items_read : tree.DerivesItems tokens [] (items.Def map ∷ [])
items_read = tree.next_item (tree.component map_read) tree.no_item
