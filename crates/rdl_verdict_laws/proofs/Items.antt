-- Tokens derive one list of items, apart from addresses.
use Rattle.std.proofs.Common.{◌≡◌, ◌⊎◌, inl, inr, Bool, true, false, refl, sym, ap, ◌∙◌, List, [], ◌∷◌, map, Option, Some, None, option_map}
use Rattle.rb_base.specs.declared.trigger.Trigger.{Trigger}
use Rattle.rdl_base.specs.declared.keyword.Keyword.{Keyword}
use Rattle.rdl_base.specs.declared.keyword.Keyword.TheVariants as words
use Rattle.rb_base.specs.declared.place.Place.{Place}
use Rattle.rb_grammar.specs.Readings.{Takes}
use Rattle.rdl_tree.specs.declared.expr.Name.{Name}
use Rattle.rdl_tree.specs.declared.expr.Path.{Path}
use Rattle.rdl_tree.specs.declared.item.Def.{Def}
use Rattle.rdl_tree.specs.declared.item.Assigned.{Assigned}
use Rattle.rdl_tree.specs.declared.item.Insts.{Insts}
use Rattle.rdl_tree.specs.declared.item.Item.{Item}
use Rattle.rdl_tree.specs.declared.item.Item.TheVariants as items
use Rattle.rdl_tree.specs.declared.item.Kind.{Kind}
use Rattle.rdl_tree.specs.declared.item.Set.{Set}
use Rattle.rdl_tree.specs.declared.token.Mark.TheVariants as marks
use Rattle.rdl_tree.specs.declared.token.Token.{Token}
use Rattle.rdl_tree.specs.declared.token.Terminal.{Terminal}
use Rattle.rdl_tree.specs.declared.token.Terminal.TheVariants as terminals
use Rattle.rdl_tree.specs.Tree.{IsMark, IsWord, IsName, kind_of, trigger_of, names_property, StartsAt, DerivesProp, DerivesPath, DerivesSteps, DerivesIndices, DerivesAssigned, DerivesLocal, DerivesSet, DerivesListed, DerivesHashed, DerivesParam, DerivesInst, DerivesInsts, SkipsInternal, DerivesMade, DerivesAlias, DerivesItem, DerivesDef, DerivesBody, DerivesItems}
use Rattle.rdl_tree.specs.Tree as tree
use Rattle.rdl_verdict_laws.specs.Plain.{nowhere, plain_name, plain_arg, plain_insts, plain_param, plain_item, plain_def}
use Rattle.rdl_verdict_laws.proofs.Built.{def-plain}
use Rattle.rdl_verdict_laws.proofs.Tokens.{Same, Once, next, next_same, next_is, taken, name_once, prop_once, ends_path}
use Rattle.rdl_verdict_laws.proofs.Exprs.{path_once}
use Rattle.rdl_verdict_laws.proofs.Phrases.{apart, assigned_once, local_once, set_once, starts_once, entries_once, params_once, insts_once, insts_first, insts_listed_once, listed_first, internal_once, made_once, alias_once}

-- What an item is, from its first two tokens.

data Role : Type 0 where
  component enum made default setting dynamic none : Role

abbrev pub second : List Token → Option Terminal
second [] = None
second (t ∷ ts) = next ts

second_same : (ts us : List Token) → Same ts us → second ts ≡ second us
second_same [] [] e = refl
second_same [] (u ∷ us) e = cc
second_same (t ∷ ts) [] e = cc
second_same (t ∷ ts) (u ∷ us) e = next_same ts us (cc)

second_is : {a : Terminal} {t : Token} {ts us : List Token} → Takes Rattle.rdl_tree.specs.Grammar.grammar a ts t us → second ts ≡ next us
second_is p = ap second p.list

-- behind "internal"
abbrev behind_internal : Option Terminal → Role
behind_internal (Some (terminals.Reserved words.Alias)) = made
behind_internal (Some terminals.Name) = made
behind_internal _ = component

-- behind a name
abbrev behind_name : Option Terminal → Role
behind_name (Some terminals.Name) = made
behind_name (Some (terminals.Mark marks.Hash)) = made
behind_name (Some (terminals.Mark marks.Equals)) = setting
behind_name (Some (terminals.Mark marks.Semicolon)) = setting
behind_name (Some (terminals.Mark marks.OpenBracket)) = dynamic
behind_name (Some (terminals.Mark marks.Dot)) = dynamic
behind_name (Some (terminals.Mark marks.Arrow)) = dynamic
behind_name _ = none

abbrev word_role : Keyword → Option Terminal → Role
word_role words.Internal b = behind_internal b
word_role words.Enum b = enum
word_role words.Alias b = made
word_role words.Default b = default
word_role words.Addrmap b = component
word_role words.Regfile b = component
word_role words.Reg b = component
word_role words.Field b = component
word_role words.Signal b = component
word_role _ b = setting

abbrev role_of : Option Terminal → Option Terminal → Role
role_of (Some terminals.Name) b = behind_name b
role_of (Some (terminals.Reserved k)) b = word_role k b
role_of _ b = none

abbrev role : List Token → Role
role ts = role_of (next ts) (second ts)

abbrev same_role : Role → Role → Bool
same_role component component = true
same_role enum enum = true
same_role made made = true
same_role default default = true
same_role setting setting = true
same_role dynamic dynamic = true
same_role none none = true
same_role _ _ = false

same_role-refl : (a : Role) → same_role a a ≡ true
same_role-refl component = refl
same_role-refl enum = refl
same_role-refl made = refl
same_role-refl default = refl
same_role-refl setting = refl
same_role-refl dynamic = refl
same_role-refl none = refl

clash : (a b : Role) → same_role a b ≡ false → a ≡ b → ⊥
clash a b h e = let f : true ≡ false = sym (same_role-refl a) ∙ ap (same_role a) e ∙ h in cc

role_same : (ts us : List Token) → Same ts us → role ts ≡ role us
role_same ts us s = λ i. role_of (next_same ts us s i) (second_same ts us s i)

role_at : (ts : List Token) {a b : Option Terminal} {r : Role} → next ts ≡ a → second ts ≡ b → role_of a b ≡ r → role ts ≡ r
role_at ts p q h = (λ i. role_of (p i) (q i)) ∙ h

kind_word : (k : Keyword) (x : Kind) → kind_of k ≡ Some x → (b : Option Terminal) → word_role k b ≡ component
kind_word words.Addrmap x e b = refl
kind_word words.Regfile x e b = refl
kind_word words.Reg x e b = refl
kind_word words.Field x e b = refl
kind_word words.Signal x e b = refl
kind_word _ x e b = cc

kind_internal : (k : Keyword) (x : Kind) → kind_of k ≡ Some x → behind_internal (Some (terminals.Reserved k)) ≡ component
kind_internal words.Alias x e = cc
kind_internal _ x e = refl

not_internal : (k : Keyword) (x : Kind) → kind_of k ≡ Some x → k ≡ words.Internal → ⊥
not_internal k x e h = let f : kind_of words.Internal ≡ Some x = sym (ap kind_of h) ∙ e in cc

trigger_word : (k : Keyword) (x : Trigger) → trigger_of k ≡ Some x → (b : Option Terminal) → word_role k b ≡ setting
trigger_word words.Posedge x e b = refl
trigger_word words.Negedge x e b = refl
trigger_word words.Bothedge x e b = refl
trigger_word words.Level x e b = refl
trigger_word words.Nonsticky x e b = refl
trigger_word _ x e b = cc

prop_word : (k : Keyword) → names_property k ≡ true → (b : Option Terminal) → word_role k b ≡ setting
prop_word words.Woset e b = refl
prop_word words.Woclr e b = refl
prop_word words.Rclr e b = refl
prop_word words.Rset e b = refl
prop_word _ e b = cc

kind_role : {ts us vs : List Token} {t : Token} {k : Keyword} {x : Kind} → SkipsInternal ts us → kind_of k ≡ Some x → IsWord k us t vs → role ts ≡ component
kind_role {ts = ts} {k = k} {x = x} tree.none e w = role_at _ (next_is w) refl (kind_word k x e (second ts))
kind_role {k = k} {x = x} (tree.some p) e w = role_at _ (next_is p) (second_is p ∙ next_is w) (kind_internal k x e)

def_role : {ts us : List Token} {d : Def} → DerivesDef ts us d → role ts ≡ component
def_role (tree.named i e w n ps b m s h1 h2 h3) = kind_role i e w
def_role (tree.bare i e w b j l s h1 h2 h3 h4 h5 h6) = kind_role i e w

insts_role : {ts us : List Token} {x : Insts} → DerivesInsts ts us x → behind_name (next ts) ≡ made
insts_role d = go (insts_first d)
  where
    go : {a : Option Terminal} → (a ≡ Some (terminals.Mark marks.Hash)) ⊎ (a ≡ Some terminals.Name) → behind_name a ≡ made
    go (inl e) = ap behind_name e
    go (inr e) = ap behind_name e

made_role : {ts us vs ws xs : List Token} {a : Option Name} {n : Name} {x : Insts} → SkipsInternal ts us → DerivesAlias us vs a → IsName vs ws n → DerivesInsts ws xs x → role ts ≡ made
made_role tree.none tree.none n d = role_at _ (next_is n.1) (second_is n.1) (insts_role d)
made_role {ts = ts} tree.none (tree.some p m) n d = role_at _ (next_is p) refl refl
made_role (tree.some p) tree.none n d = role_at _ (next_is p) (second_is p ∙ next_is n.1) refl
made_role (tree.some p) (tree.some q m) n d = role_at _ (next_is p) (second_is p ∙ next_is q) refl

assigned_role : {t : Token} {ts us vs : List Token} {g : Option Assigned} → DerivesAssigned ts us g → IsMark marks.Semicolon us t vs → behind_name (next ts) ≡ setting
assigned_role tree.none e = ap behind_name (next_is e)
assigned_role (tree.some p d) e = ap behind_name (next_is p)

local_role : {q : Place} {ts us : List Token} {s : Set} → DerivesLocal q ts us s → role ts ≡ setting
local_role (tree.assigned (tree.name p) v e) = role_at _ (next_is p.1) (second_is p.1) (assigned_role v e)
local_role {ts = ts} (tree.assigned (tree.word {k = k} h p n) v e) = role_at _ (next_is p) refl (prop_word k h (second ts))
local_role {ts = ts} (tree.triggered {k = k} {e = x} h w n e) = role_at _ (next_is w) refl (trigger_word k x h (second ts))

indices_role : {ts us : List Token} {es : List _} → DerivesIndices ts us es → behind_name (next us) ≡ dynamic → behind_name (next ts) ≡ dynamic
indices_role tree.no_index h = h
indices_role (tree.next_index o d c z) h = ap behind_name (next_is o)

steps_role : {ts us : List Token} {ss : List _} → DerivesSteps ts us ss → behind_name (next us) ≡ dynamic → behind_name (next ts) ≡ dynamic
steps_role tree.no_step h = h
steps_role (tree.next_step d a z) h = ap behind_name (next_is d)

dynamic_role : {t : Token} {ts us vs : List Token} {p : Path} → DerivesPath ts us p → IsMark marks.Arrow us t vs → role ts ≡ dynamic
dynamic_role (tree.steps e (tree.step n is) ss) a = role_at _ (next_is n.1) (second_is n.1) (indices_role is (steps_role ss (ap behind_name (next_is a))))

abbrev role_in : {ts us : List Token} {i : Item} → DerivesItem ts us i → Role
role_in (tree.component d) = component
role_in (tree.enum e n o ds c s) = enum
role_in (tree.made i a n d s) = made
role_in (tree.default p e d) = default
role_in (tree.local d) = setting
role_in (tree.dynamic p d a n v s) = dynamic

item_role : {ts us : List Token} {i : Item} (d : DerivesItem ts us i) → role ts ≡ role_in d
item_role (tree.component d) = def_role d
item_role (tree.enum e n o ds c s) = role_at _ (next_is e) refl refl
item_role (tree.made i a n d s) = made_role i a n d
item_role (tree.default p e d) = role_at _ (next_is p) refl refl
item_role (tree.local d) = local_role d.local
item_role (tree.dynamic p d a n v s) = dynamic_role d a

-- Where items end: at a brace, or at the end.

abbrev pub stops : Option Terminal → Bool
stops None = true
stops (Some (terminals.Mark marks.CloseBrace)) = true
stops _ = false

stop_role : (a b : Option Terminal) → stops a ≡ true → role_of a b ≡ none
stop_role None b e = refl
stop_role (Some terminals.Name) b e = cc
stop_role (Some (terminals.Reserved k)) b e = cc
stop_role _ b e = refl

no_item_stops : {ts us : List Token} {i : Item} → DerivesItem ts us i → stops (next ts) ≡ true → ⊥
no_item_stops {ts = ts} (tree.component d) e = let h = def_role d in let k = stop_role (next ts) (second ts) e in cc
no_item_stops {ts = ts} d e = let h = item_role d in let k = stop_role (next ts) (second ts) e in cc

-- Parts of items.

no_kind : {ts us : List Token} {t : Token} {k : Keyword} {x : Kind} → kind_of k ≡ Some x → IsWord k ts t us → next ts ≡ Some (terminals.Reserved words.Internal) → ⊥
no_kind {k = k} {x = x} e w h = let f : Some (terminals.Reserved k) ≡ Some (terminals.Reserved words.Internal) = sym (next_is w) ∙ h in let g : k ≡ words.Internal = cc in not_internal k x e g

no_alias : {ts us vs : List Token} {a : Option Name} {n : Name} → DerivesAlias ts us a → IsName us vs n → next ts ≡ Some (terminals.Reserved words.Internal) → ⊥
no_alias tree.none n h = cc (next_is n.1)
no_alias (tree.some p m) n h = cc (next_is p)

body_first : {ts us : List Token} {is : List Item} → DerivesBody ts us is → next ts ≡ Some (terminals.Mark marks.OpenBrace)
body_first (tree.body o ds c) = next_is o

params_first : {ts us : List Token} {ps : List _} → DerivesHashed DerivesParam ts us ps → next us ≡ Some (terminals.Mark marks.OpenBrace) → next ts ≡ Some terminals.Name → ⊥
params_first tree.none x h = cc
params_first (tree.some p o ds c) x h = cc (next_is p)

-- kinds of one word
one_kind : {ts us ts' us' : List Token} {t u : Token} {k l : Keyword} {x y : Kind} → kind_of k ≡ Some x → kind_of l ≡ Some y → IsWord k ts t us → IsWord l ts' u us' → Same ts ts' → x ≡ y
one_kind {k = k} {l = l} {x = x} {y = y} e f p q s =
    let h = apart _ _ s (next_is p) (next_is q) in
    let kk : k ≡ l = cc in
    let z : Some x ≡ Some y = sym e ∙ ap kind_of kk ∙ f in
    cc

def_is : (d b : Def) → d.kind ≡ b.kind → option_map plain_name d.name ≡ option_map plain_name b.name → map plain_param d.params.now ≡ map plain_param b.params.now → map plain_item d.items.now ≡ map plain_item b.items.now
    → option_map plain_insts d.insts ≡ option_map plain_insts b.insts → d.place ≡ b.place → plain_def d ≡ plain_def b
def_is d b k n p i m q = λ j. record { kind = k j; name = n j; params = nowhere (p j); items = nowhere (i j); insts = m j; place = q j }

mutual
  item_once : {ts us : List Token} {i : Item} → DerivesItem ts us i → {ts' us' : List Token} {k : Item} → DerivesItem ts' us' k → Same ts ts' → Once plain_item us us' i k
  item_once (tree.component {d = x} d) (tree.component {d = y} b) s = let h = def_once d b s in record { rest = h.rest; tree = def-plain x ∙ ap items.Def h.tree ∙ sym (def-plain y) }
  item_once (tree.enum e n o ds c m) (tree.enum e' n' o' ds' c' m') s =
      let h = name_once n n' (taken e e' s).rest in
      let i = entries_once ds ds' (taken o o' h.rest).rest (next_is c) (next_is c') in
      record { rest = (taken m m' (taken c c' i.rest).rest).rest; tree = λ j. items.EnumDef (h.tree j) (nowhere (i.tree j)) }
  item_once (tree.made i a n d m) (tree.made i' a' n' d' m') s =
      let g = internal_once i i' s (no_alias a n) (no_alias a' n') in
      let f = alias_once a a' g (next_is n.1) (next_is n'.1) in
      let h = name_once n n' f.rest in
      let k = insts_once d d' h.rest (next_is m) (next_is m') in
      record { rest = (taken m m' k.rest).rest; tree = λ j. items.Made (f.tree j) (h.tree j) (k.tree j) }
  item_once (tree.default p e d) (tree.default p' e' d') s =
      let g = taken p p' s in
      let h = local_once d d' (e ∙ g.place ∙ sym e') g.rest in
      record { rest = h.rest; tree = λ j. items.Default (h.tree j) }
  item_once (tree.local d) (tree.local d') s = let h = set_once d d' s in record { rest = h.rest; tree = λ j. items.Local (h.tree j) }
  item_once {ts = ts} (tree.dynamic {place = x} p d a n v m) {ts' = ts'} (tree.dynamic {place = y} p' d' a' n' v' m') s =
      let h = path_once d d' s (ap ends_path (next_is a)) (ap ends_path (next_is a')) in
      let i = prop_once n n' (taken a a' h.rest).rest in
      let k = assigned_once v v' i.rest (next_is m) (next_is m') in
      let z = starts_once ts ts' x y p p' s in
      record { rest = (taken m m' k.rest).rest; tree = λ j. items.Dynamic (h.tree j) (record { prop = i.tree j; trigger = None; value = k.tree j; place = z j }) }
  item_once {ts = ts} d {ts' = ts'} b s = absurd (clash (role_in d) (role_in b) refl (sym (item_role d) ∙ role_same ts ts' s ∙ item_role b))

  def_once : {ts us : List Token} {d : Def} → DerivesDef ts us d → {ts' us' : List Token} {b : Def} → DerivesDef ts' us' b → Same ts ts' → Once plain_def us us' d b
  def_once (tree.named {d = d} i e w n ps b m q h1 h2 h3) (tree.named {d = d'} i' e' w' n' ps' b' m' q' h1' h2' h3') s =
      let f = internal_once i i' s (no_kind e w) (no_kind e' w') in
      let t = taken w w' f in
      let h = name_once n n' t.rest in
      let x = body_first b in
      let y = body_first b' in
      let p = params_once ps ps' h.rest (λ z. cc) (λ z. cc) in
      let c = body_once b b' p.rest in
      let g = made_once m m' c.rest (next_is q) (next_is q') in
      record { rest = (taken q q' g.rest).rest; tree = def_is d d' (h1 ∙ one_kind e e' w w' f ∙ sym h1') (ap (option_map plain_name) h2 ∙ ap Some h.tree ∙ sym (ap (option_map plain_name) h2')) p.tree c.tree g.tree (h3 ∙ ap (λ z. z.place) h.tree ∙ sym h3') }
  def_once (tree.bare {i = a} {d = d} i e w b j l q h1 h2 h3 h4 h5 h6) (tree.bare {i = a'} {d = d'} i' e' w' b' j' l' q' h1' h2' h3' h4' h5' h6') s =
      let f = internal_once i i' s (no_kind e w) (no_kind e' w') in
      let t = taken w w' f in
      let c = body_once b b' t.rest in
      let x = listed_first l in
      let y = listed_first l' in
      let g = internal_once j j' c.rest (λ z. cc) (λ z. cc) in
      let k = insts_listed_once l l' g (next_is q) (next_is q') in
      let args : a.args.now ≡ a'.args.now = h5 ∙ sym h5' in
      let z : plain_insts a ≡ plain_insts a' = λ r. record { args = nowhere (map plain_arg (args r)); list = nowhere (k.tree r) } in
      record { rest = (taken q q' k.rest).rest; tree = def_is d d' (h1 ∙ one_kind e e' w w' f ∙ sym h1') (ap (option_map plain_name) (h2 ∙ sym h2')) (ap (map plain_param) (h3 ∙ sym h3')) c.tree (ap (option_map plain_insts) h4 ∙ ap Some z ∙ sym (ap (option_map plain_insts) h4')) (h6 ∙ t.place ∙ sym h6') }
  def_once (tree.named {vs = v} i e w n ps b m q h1 h2 h3) (tree.bare {vs = v'} i' e' w' b' j l q' h1' h2' h3' h4 h5 h6) s =
      let f = internal_once i i' s (no_kind e w) (no_kind e' w') in
      let h = apart v v' (taken w w' f).rest (next_is n.1) (body_first b') in
      cc
  def_once (tree.bare {vs = v'} i' e' w' b' j l q' h1' h2' h3' h4 h5 h6) (tree.named {vs = v} i e w n ps b m q h1 h2 h3) s =
      let f = internal_once i' i s (no_kind e' w') (no_kind e w) in
      let h = apart v' v (taken w' w f).rest (body_first b') (next_is n.1) in
      cc

  body_once : {ts us : List Token} {is : List Item} → DerivesBody ts us is → {ts' us' : List Token} {ks : List Item} → DerivesBody ts' us' ks → Same ts ts' → Once (map plain_item) us us' is ks
  body_once (tree.body o ds c) (tree.body o' ds' c') s =
      let h = items_once ds ds' (taken o o' s).rest (ap stops (next_is c)) (ap stops (next_is c')) in
      record { rest = (taken c c' h.rest).rest; tree = h.tree }

  pub items_once : {ts us : List Token} {is : List Item} → DerivesItems ts us is → {ts' us' : List Token} {ks : List Item} → DerivesItems ts' us' ks → Same ts ts' → stops (next us) ≡ true → stops (next us') ≡ true → Once (map plain_item) us us' is ks
  items_once tree.no_item tree.no_item s x y = record { rest = s; tree = refl }
  items_once (tree.no_item {ts = t}) (tree.next_item {ts = u} d ds) s x y = absurd (no_item_stops d (sym (ap stops (next_same t u s)) ∙ x))
  items_once (tree.next_item {ts = t} d ds) (tree.no_item {ts = u}) s x y = absurd (no_item_stops d (ap stops (next_same t u s) ∙ y))
  items_once (tree.next_item d ds) (tree.next_item e es) s x y =
      let h = item_once d e s in
      let i = items_once ds es h.rest x y in
      record { rest = i.rest; tree = λ j. h.tree j ∷ i.tree j }

-- the items that all tokens derive
pub one_items : (ts us : List Token) (is ks : List Item) → Same ts us → DerivesItems ts [] is → DerivesItems us [] ks → map plain_item is ≡ map plain_item ks
one_items ts us is ks s d b = (items_once d b s refl refl).tree
