-- Steps and trees of items.
use Rattle.std.proofs.Common.{◌≡◌, true, false, Result, Ok, Err, IfOk, Option, Some, None, MatchOption, List, [], ◌∷◌, refl, ap, sym, ◌∙◌, subst}
use Rattle.std.specs.Borrow.{Bor}
use Rattle.rdl_base.specs.declared.keyword.Keyword.{Keyword}
use Rattle.rdl_base.specs.declared.keyword.Keyword.TheVariants as words
use Rattle.rb_base.specs.declared.place.Place.{Place}
use Rattle.rb_grammar.specs.declared.stop.Stop.{Stop}
use Rattle.rb_grammar.specs.Forms.{Non, Opt, Many}
use Rattle.rb_grammar.specs.Readings.{at, Takes, Misses, Same}
use Rattle.rb_grammar.proofs.Following.{◌⟫◌}
use Rattle.rb_grammar.proofs.Barring.{Here, Without, AreOff}
use Rattle.rb_grammar.proofs.Steps.{entering, opening, taking, missing, seen}
use Rattle.rdl_tree.specs.declared.expr.Name.{Name}
use Rattle.rdl_tree.specs.declared.expr.Path.{Path}
use Rattle.rdl_tree.specs.declared.item.Def.{roll-Def, out-roll-Def}
use Rattle.rdl_tree.specs.declared.item.Insts.{Insts}
use Rattle.rdl_tree.specs.declared.item.Item.{Item}
use Rattle.rdl_tree.specs.declared.item.Item.TheVariants as items
use Rattle.rdl_tree.specs.declared.item.Kind.{Kind}
use Rattle.rdl_tree.specs.declared.item.Param.{Param}
use Rattle.rdl_tree.specs.declared.item.Set.{Set}
use Rattle.rdl_tree.specs.declared.token.Mark.{Mark}
use Rattle.rdl_tree.specs.declared.token.Mark.TheVariants as marks
use Rattle.rdl_tree.specs.declared.token.Terminal.{Terminal}
use Rattle.rdl_tree.specs.declared.token.Terminal.TheVariants as terminals
use Rattle.rdl_tree.specs.declared.token.Token.{Token}
use Rattle.rdl_tree.specs.declared.token.TokenKind.{TokenKind}
use Rattle.rdl_tree.specs.declared.token.TokenKind.TheVariants as kinds
use Rattle.rdl_tree.specs.Tokens.{same, terminal_of}
use Rattle.rdl_tree.specs.Grammar.{Rule, grammar, mark, name, word}
use Rattle.rdl_tree.specs.Grammar as rules
use Rattle.rdl_tree.specs.Tree as tree
use Rattle.rdl_tree.specs.Tree.{IsMark, IsWord, IsName, StartsAt, SkipsInternal, DerivesHashed, DerivesParam, DerivesBody, DerivesMade, DerivesListed, DerivesInst, DerivesPath, DerivesProp, DerivesLocal, DerivesSet, DerivesItem, kind_of, assigned, component, dynamic, local, named, bare}
use Rattle.rdl_parser.specs.declared.components.Role.TheVariants as roles
use Rattle.rdl_expressions.specs.declared.parser.Sort.TheVariants as sorts
use Rattle.rdl_parser.specs.ItemForms.{role, kind_role, mark_role, named_or_bare, alias, of_type, behind_internal, simple_item, item_behind_name, assignment, Sets, EndsDef}
use Rattle.rdl_expressions.specs.Following.{has, more_steps}
use Rattle.rdl_parser.specs.ItemForms as following
use Rattle.rdl_expressions.proofs.Firsts.{table, right}
use Rattle.rb_grammar.proofs.Factoring.{splitting, packing, either, first_chosen, second_chosen}
use Rattle.rdl_parser.proofs.Phrases.{set_is_local}

pub moved : (a : Terminal) {ts us : List Token} → ts ≡ us → at grammar a ts ≡ false → at grammar a us ≡ false
moved a e h = subst (λ z. at grammar a z ≡ false) e h

pub moved_item : {ts us : List Token} (vs : List Token) (r : Result Item Stop) → us ≡ ts → IfOk r (DerivesItem us vs) → IfOk r (DerivesItem ts vs)
moved_item vs (Ok x) e h = subst (λ z. DerivesItem z vs x) e h
moved_item vs (Err stop) e h = tt

pub default_tree : {t : Token} {ts us vs : List Token} {place : Place} {s : Set} → IsWord words.Default ts t us → place ≡ t.place → DerivesLocal place us vs s → s.place ≡ place → DerivesItem ts vs (items.Default s)
default_tree {us = us} {vs = vs} {s = s} i at d e = tree.default i (e ∙ at) (subst (λ z. DerivesLocal z us vs s) (sym e) d)

pub skip_tree : {ts us : List Token} (o : Option Token) → MatchOption o (Misses grammar (terminals.Reserved words.Internal) ts us) (λ t. IsWord words.Internal ts t us) → SkipsInternal ts us
skip_tree {ts = ts} None m = subst (λ z. SkipsInternal ts z) (sym m.list) tree.none
skip_tree (Some t) i = tree.some i

pub skip_step : {ts us : List Token} (o : Option Token) → MatchOption o (Misses grammar (terminals.Reserved words.Internal) ts us) (λ t. IsWord words.Internal ts t us)
    → Same grammar (terminals.Reserved words.Internal ∷ []) (Opt (word words.Internal) ∷ []) ts [] us
skip_step None m = missing right m refl
skip_step (Some t) i = taking right i refl

-- "internal" begins a component or instances
pub internal_step : {t : Token} {ts us : List Token} → IsWord words.Internal ts t us → Same grammar [] (Non rules.Item ∷ []) ts (behind_internal ∷ []) us
internal_step i =
    entering ⟫ either (entering ⟫ taking right i refl ⟫ packing 1) (opening right (Here (terminals.Reserved words.Internal)) refl (seen i) ⟫ entering ⟫ taking right i refl ⟫ packing 1)

-- a kind begins a component
pub kind_step : {t : Token} {ts us : List Token} (k : Keyword) → has sorts.Kind k ≡ true → IsWord k ts t us → Same grammar [] (Non rules.Item ∷ []) ts (named_or_bare ∷ mark marks.Semicolon ∷ []) us
kind_step words.Addrmap e i = entering ⟫ opening right (Here (terminals.Reserved words.Addrmap)) refl (seen i) ⟫ entering ⟫ opening right (Here (terminals.Reserved words.Addrmap)) refl (seen i) ⟫ entering ⟫ taking right i refl
kind_step words.Regfile e i = entering ⟫ opening right (Here (terminals.Reserved words.Regfile)) refl (seen i) ⟫ entering ⟫ opening right (Here (terminals.Reserved words.Regfile)) refl (seen i) ⟫ entering ⟫ taking right i refl
kind_step words.Reg e i = entering ⟫ opening right (Here (terminals.Reserved words.Reg)) refl (seen i) ⟫ entering ⟫ opening right (Here (terminals.Reserved words.Reg)) refl (seen i) ⟫ entering ⟫ taking right i refl
kind_step words.Field e i = entering ⟫ opening right (Here (terminals.Reserved words.Field)) refl (seen i) ⟫ entering ⟫ opening right (Here (terminals.Reserved words.Field)) refl (seen i) ⟫ entering ⟫ taking right i refl
kind_step words.Signal e i = entering ⟫ opening right (Here (terminals.Reserved words.Signal)) refl (seen i) ⟫ entering ⟫ opening right (Here (terminals.Reserved words.Signal)) refl (seen i) ⟫ entering ⟫ taking right i refl
kind_step _ e i = cc

-- and behind "internal"
pub inner_kind_step : {t : Token} {ts us : List Token} (k : Keyword) → has sorts.Kind k ≡ true → IsWord k ts t us → Same grammar [] (behind_internal ∷ []) ts (named_or_bare ∷ mark marks.Semicolon ∷ []) us
inner_kind_step words.Addrmap e i = opening right (Here (terminals.Reserved words.Addrmap)) refl (seen i) ⟫ entering ⟫ taking right i refl
inner_kind_step words.Regfile e i = opening right (Here (terminals.Reserved words.Regfile)) refl (seen i) ⟫ entering ⟫ taking right i refl
inner_kind_step words.Reg e i = opening right (Here (terminals.Reserved words.Reg)) refl (seen i) ⟫ entering ⟫ taking right i refl
inner_kind_step words.Field e i = opening right (Here (terminals.Reserved words.Field)) refl (seen i) ⟫ entering ⟫ taking right i refl
inner_kind_step words.Signal e i = opening right (Here (terminals.Reserved words.Signal)) refl (seen i) ⟫ entering ⟫ taking right i refl
inner_kind_step _ e i = cc

-- a name begins instances, or an assignment
pub item_name_step : {t : Token} {ts us : List Token} → Takes grammar terminals.Name ts t us → Same grammar [] (simple_item ∷ []) ts (item_behind_name ∷ []) us
item_name_step i =
    opening right (Here terminals.Name) refl (seen i)
    ⟫ either (entering ⟫ taking right i refl ⟫ packing 1) (opening right (Here terminals.Name) refl (seen i)
    ⟫ either (entering ⟫ opening right (Here terminals.Name) refl (seen i) ⟫ entering ⟫ taking right i refl ⟫ packing 1) (entering ⟫ entering ⟫ entering ⟫ taking right i refl ⟫ packing 2))

-- What the token behind the name says.

pub local_step : (ts : List Token) → role ts ≡ roles.Local → Same grammar [] (item_behind_name ∷ []) ts (following.assigned ∷ mark marks.Semicolon ∷ []) ts
local_step [] e = cc
local_step (t ∷ ts) e = go t.kind refl e
  where
    marked : (m : Mark) → t.kind ≡ kinds.Mark m → mark_role m ≡ roles.Local → Same grammar [] (item_behind_name ∷ []) (t ∷ ts) (following.assigned ∷ mark marks.Semicolon ∷ []) (t ∷ ts)
    marked marks.Equals k e = let h = ap (λ z. same (terminals.Mark marks.Equals) (terminal_of z)) k in second_chosen right (Here (terminals.Mark marks.Equals)) refl h ⟫ first_chosen right (Here (terminals.Mark marks.Equals)) refl h ⟫ splitting
    marked marks.Semicolon k e = let h = ap (λ z. same (terminals.Mark marks.Semicolon) (terminal_of z)) k in second_chosen right (Here (terminals.Mark marks.Semicolon)) refl h ⟫ first_chosen right (Here (terminals.Mark marks.Semicolon)) refl h ⟫ splitting
    marked _ k e = cc

    go : (kind : TokenKind) → t.kind ≡ kind → kind_role kind ≡ roles.Local → Same grammar [] (item_behind_name ∷ []) (t ∷ ts) (following.assigned ∷ mark marks.Semicolon ∷ []) (t ∷ ts)
    go (kinds.Mark m) k e = marked m k e
    go kinds.Word k e = cc
    go (kinds.Number n) k e = cc
    go kinds.Str k e = cc
    go (kinds.Reserved w) k e = cc

pub dynamic_step : (ts : List Token) → role ts ≡ roles.Dynamic → Same grammar [] (item_behind_name ∷ []) ts (Many (Non rules.Index) ∷ more_steps ∷ assignment ∷ []) ts
dynamic_step [] e = cc
dynamic_step (t ∷ ts) e = go t.kind refl e
  where
    marked : (m : Mark) → t.kind ≡ kinds.Mark m → mark_role m ≡ roles.Dynamic → Same grammar [] (item_behind_name ∷ []) (t ∷ ts) (Many (Non rules.Index) ∷ more_steps ∷ assignment ∷ []) (t ∷ ts)
    marked marks.OpenBracket k e = let h = ap (λ z. same (terminals.Mark marks.OpenBracket) (terminal_of z)) k in second_chosen right (Here (terminals.Mark marks.OpenBracket)) refl h ⟫ second_chosen right (Here (terminals.Mark marks.OpenBracket)) refl h ⟫ splitting
    marked marks.Dot k e = let h = ap (λ z. same (terminals.Mark marks.Dot) (terminal_of z)) k in second_chosen right (Here (terminals.Mark marks.Dot)) refl h ⟫ second_chosen right (Here (terminals.Mark marks.Dot)) refl h ⟫ splitting
    marked marks.Arrow k e = let h = ap (λ z. same (terminals.Mark marks.Arrow) (terminal_of z)) k in second_chosen right (Here (terminals.Mark marks.Arrow)) refl h ⟫ second_chosen right (Here (terminals.Mark marks.Arrow)) refl h ⟫ splitting
    marked _ k e = cc

    go : (kind : TokenKind) → t.kind ≡ kind → kind_role kind ≡ roles.Dynamic → Same grammar [] (item_behind_name ∷ []) (t ∷ ts) (Many (Non rules.Index) ∷ more_steps ∷ assignment ∷ []) (t ∷ ts)
    go (kinds.Mark m) k e = marked m k e
    go kinds.Word k e = cc
    go (kinds.Number n) k e = cc
    go kinds.Str k e = cc
    go (kinds.Reserved w) k e = cc

pub made_step : (ts : List Token) → role ts ≡ roles.Made → Same grammar [] (item_behind_name ∷ []) ts (Non rules.Insts ∷ mark marks.Semicolon ∷ []) ts
made_step ts e = opening right (Without nots) refl (off ts e)
  where
    nots : List Terminal
    nots = terminals.Mark marks.Equals ∷ terminals.Mark marks.Semicolon ∷ terminals.Mark marks.OpenBracket ∷ terminals.Mark marks.Dot ∷ terminals.Mark marks.Arrow ∷ []

    of_mark : (m : Mark) → mark_role m ≡ roles.Made → (same (terminals.Mark marks.Equals) (terminals.Mark m) ≡ false) × ((same (terminals.Mark marks.Semicolon) (terminals.Mark m) ≡ false) × ((same (terminals.Mark marks.OpenBracket) (terminals.Mark m) ≡ false) × ((same (terminals.Mark marks.Dot) (terminals.Mark m) ≡ false) × ((same (terminals.Mark marks.Arrow) (terminals.Mark m) ≡ false) × Unit {0}))))
    of_mark marks.Equals e = cc
    of_mark marks.Semicolon e = cc
    of_mark marks.OpenBracket e = cc
    of_mark marks.Dot e = cc
    of_mark marks.Arrow e = cc
    of_mark _ e = (refl, (refl, (refl, (refl, (refl, tt)))))

    of_kind : (kind : TokenKind) → kind_role kind ≡ roles.Made → (same (terminals.Mark marks.Equals) (terminal_of kind) ≡ false) × ((same (terminals.Mark marks.Semicolon) (terminal_of kind) ≡ false) × ((same (terminals.Mark marks.OpenBracket) (terminal_of kind) ≡ false) × ((same (terminals.Mark marks.Dot) (terminal_of kind) ≡ false) × ((same (terminals.Mark marks.Arrow) (terminal_of kind) ≡ false) × Unit {0}))))
    of_kind (kinds.Mark m) e = of_mark m e
    of_kind kinds.Word e = (refl, (refl, (refl, (refl, (refl, tt)))))
    of_kind (kinds.Number n) e = (refl, (refl, (refl, (refl, (refl, tt)))))
    of_kind kinds.Str e = (refl, (refl, (refl, (refl, (refl, tt)))))
    of_kind (kinds.Reserved w) e = (refl, (refl, (refl, (refl, (refl, tt)))))

    off : (ts : List Token) → role ts ≡ roles.Made → AreOff grammar table right nots ts
    off [] e = (refl, (refl, (refl, (refl, (refl, tt)))))
    off (t ∷ ts) e = of_kind t.kind e

-- Trees.

-- a list begins at its first name
pub starts : {n : Name} {ts us : List Token} → IsName ts us n → StartsAt ts n.place
starts {n = n} k = subst (λ z. StartsAt z n.place) (sym k.1.list) k.2.1

pub local_tree : {n : Name} {ts us vs : List Token} {s : Set} → IsName ts us n → Sets n n.place us vs s → DerivesItem ts vs (items.Local s)
local_tree {n = n} {ts = ts} {vs = vs} {s = s} k h =
    local record { at = subst (λ z. StartsAt ts z.place) (sym h.is) (starts k); local = subst (λ z. DerivesLocal z.place ts vs s) (sym h.is) (set_is_local (tree.name k) h) }

pub dynamic_tree : {p : Path} {prop : Name} {place : Place} {t : Token} {ts us vs ws xs : List Token} {s : Set} → StartsAt ts place → DerivesPath ts us p → IsMark marks.Arrow us t vs → DerivesProp vs ws prop → Sets prop place ws xs s
    → DerivesItem ts xs (items.Dynamic p s)
dynamic_tree {p = p} {ts = ts} {xs = xs} a d i e h = subst (λ z. DerivesItem ts xs (items.Dynamic p z)) (sym h.is) (dynamic a d i e h.assigned h.ends)

pub named_tree : {k : Keyword} {t : Token} {ts us vs ws xs ys zs : List Token} (kind : Kind) (n : Name) (params : Bor (List Param)) (body : Bor (List Item)) (insts : Option Insts) → SkipsInternal ts us → kind_of k ≡ Some kind → IsWord k us t vs → IsName vs ws n
    → DerivesHashed DerivesParam ws xs params.now → DerivesBody xs ys body.now → EndsDef ys zs insts → DerivesItem ts zs (items.Def (roll-Def record { kind = kind; name = Some n; params = params; items = body; insts = insts; place = n.place }))
named_tree {ws = ws} {xs = xs} {ys = ys} kind n params body insts s e i m p b h =
    let o = out-roll-Def record { kind = kind; name = Some n; params = params; items = body; insts = insts; place = n.place } in
    component (named s e i m (subst (λ z. DerivesHashed DerivesParam ws xs z.params.now) (sym o) p) (subst (λ z. DerivesBody xs ys z.items.now) (sym o) b) (subst (λ z. DerivesMade ys h.middle z.insts) (sym o) h.made) h.ends
    (ap (λ z. z.kind) o) (ap (λ z. z.name) o) (ap (λ z. z.place) o))

pub bare_tree : {k : Keyword} {t u : Token} {ts us vs ws xs ys zs : List Token} (kind : Kind) (params : Bor (List Param)) (body : Bor (List Item)) (insts : Insts) (place : Place) → SkipsInternal ts us → kind_of k ≡ Some kind → IsWord k us t vs → place ≡ t.place → DerivesBody vs ws body.now
    → SkipsInternal ws xs → DerivesListed DerivesInst xs ys insts.list.now → IsMark marks.Semicolon ys u zs → params.now ≡ [] → insts.args.now ≡ []
    → DerivesItem ts zs (items.Def (roll-Def record { kind = kind; name = None; params = params; items = body; insts = Some insts; place = place }))
bare_tree {vs = vs} {ws = ws} kind params body insts place s e i at b r l m np na =
    let o = out-roll-Def record { kind = kind; name = None; params = params; items = body; insts = Some insts; place = place } in
    component (bare s e i (subst (λ z. DerivesBody vs ws z.items.now) (sym o) b) r l m (ap (λ z. z.kind) o) (ap (λ z. z.name) o) (ap (λ z. z.params.now) o ∙ np) (ap (λ z. z.insts) o) na (ap (λ z. z.place) o ∙ at))
