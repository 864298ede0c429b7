-- Where no rule on instances fails, the entries of an enumeration have different names, which are words.
use Rattle.std.proofs.Common.{◌≡◌, ◌∙◌, ℕ, Bool, true, false, not, ◌&&◌, ◌||◌, ◌==◌, bytes_eq, List, [], ◌∷◌, ◌++◌, map, flat_map, Option, None, Some, option_to_list, Ok, Err, refl, sym, ap, subst}
use Rattle.std.specs.Prelude.{IsTrue}
use Rattle.std.specs.List.{AllByRecursion, list_all}
use Rattle.plain_lemmas.proofs.Bools.{and-right, or-neither}
use Rattle.plain_lemmas.proofs.Lists.{bytes_eq-swap, each-append, each-imp, list_any-append, map-map}
use Rattle.v_design.specs.Lexemes.{among, is_name}
use Rattle.v_design.specs.WellFormed.{distinct}
use Rattle.rb_model.specs.References.{Each}
use Rattle.rdl_base.specs.declared.fault.Fault.{Fault}
use Rattle.rdl_base.specs.declared.rule.Rule.TheVariants as rules
use Rattle.rdl_tree.specs.declared.expr.Name.{Name}
use Rattle.rdl_tree.specs.declared.item.Entry.{Entry}
use Rattle.rdl_tree.specs.declared.item.Item.{Item}
use Rattle.rdl_tree.specs.Words.{is_word, IsWordName}
use Rattle.rdl_values.specs.Bodies.{Body, around, same_name, standing, standing_from}
use Rattle.rdl_values.specs.Enums.{entry_number, enum_of, judged, judged_from, names_of, with_item, with_items}
use Rattle.rdl_values.specs.Faults.{at_, when}
use Rattle.rdl_values.specs.Parameters.{Bound}
use Rattle.rdl_values.specs.Phase3.{clashes, of_entries, of_enum, of_enums}
use Rattle.rdl_values.specs.Values.{Around, EnumOf, Names, Outcome}
use Rattle.rdl_values.specs.Views as view
use Rattle.rdl_values.specs.Views.{ItemIs, item_is, item_is-Def}
use Rattle.rdl_sound_laws.proofs.Names.{word_named}
use Rattle.rdl_verdict_laws.proofs.EntryTokens as entries
use Rattle.rdl_verdict_laws.proofs.EntryTokens.{HasWordEntries, HaveWordEntries}

-- The entries of the enumeration have different names, without `$`.
pub record IsPlainEnum (e : EnumOf) : Type 0 where
  pub names : IsTrue (distinct (map (λ x. x.0) e.entries))
  pub plain : Each (λ x. IsTrue (list_all (λ c. not (c == 36)) x.0)) e.entries

-- Empty lists of failures.

pub nil-left : (xs ys : List Fault) → xs ++ ys ≡ [] → xs ≡ []
nil-left [] ys e = refl
nil-left (x ∷ xs) ys e = cc

pub nil-right : (xs ys : List Fault) → xs ++ ys ≡ [] → ys ≡ []
nil-right [] ys e = e
nil-right (x ∷ xs) ys e = cc

pub nil-each : {X : Type 0} (f : X → List Fault) (xs : List X) → flat_map f xs ≡ [] → AllByRecursion (λ x. f x ≡ []) xs
nil-each f [] e = tt
nil-each f (x ∷ xs) e = (nil-left (f x) (flat_map f xs) e, nil-each f xs (nil-right (f x) (flat_map f xs) e))

when-nil : (t : Bool) (f : Fault) → when t f ≡ [] → t ≡ false
when-nil false f e = refl
when-nil true f e = cc

-- Different names.

abbrev text : Name × ℕ → List ℕ
text e = e.0.text.now

abbrev twice : List (Name × ℕ) → List (Name × ℕ) → List Fault
twice before es = flat_map (λ e. when (clashes e.0 e.1) (at_ rules.E14 e.1.0.place)) (standing_from before es)

-- an entry clashes with none before it
abbrev Free : List (Name × ℕ) → List (Name × ℕ) → Type 0
Free before es = AllByRecursion (λ e. clashes before e ≡ false) es

-- nor with the last of them
free-parts : (before : List (Name × ℕ)) (x e : Name × ℕ) → clashes (before ++ (x ∷ [])) e ≡ false → (clashes before e ≡ false) × (same_name x.0 e.0 ≡ false)
free-parts before x e h =
    let parts = or-neither (clashes before e) ((same_name x.0 e.0 || x.1 == e.1) || false) (sym (list_any-append (λ f. same_name f.0 e.0 || f.1 == e.1) before (x ∷ [])) ∙ h) in
    let last = or-neither (same_name x.0 e.0 || x.1 == e.1) false parts.1 in
    let name = or-neither (same_name x.0 e.0) (x.1 == e.1) last.0 in
    (parts.0, name.0)

none-among : (before : List (Name × ℕ)) (x : Name × ℕ) (es : List (Name × ℕ)) → Free (before ++ (x ∷ [])) es → among (map text es) (text x) ≡ false
none-among before x [] h = refl
none-among before x (e ∷ es) h =
    let other : bytes_eq (text e) (text x) ≡ false = bytes_eq-swap (text e) (text x) ∙ (free-parts before x e h.0).1 in
    ap (λ b. b || among (map text es) (text x)) other ∙ none-among before x es h.1

free : (before es : List (Name × ℕ)) → twice before es ≡ [] → Free before es
free before [] e = tt
free before (x ∷ es) e =
    let here = when (clashes before x) (at_ rules.E14 x.0.place) in (
      when-nil (clashes before x) (at_ rules.E14 x.0.place) (nil-left here (twice (before ++ (x ∷ [])) es) e),
      each-imp _ _ es (λ f h. (free-parts before x f h).0) (free (before ++ (x ∷ [])) es (nil-right here (twice (before ++ (x ∷ [])) es) e)),
    )

differ : (before es : List (Name × ℕ)) → twice before es ≡ [] → IsTrue (distinct (map text es))
differ before [] e = refl
differ before (x ∷ es) e =
    let here = when (clashes before x) (at_ rules.E14 x.0.place) in
    let rest = nil-right here (twice (before ++ (x ∷ [])) es) e in
    ap (λ b. not b && distinct (map text es)) (none-among before x es (free (before ++ (x ∷ [])) es rest)) ∙ differ (before ++ (x ∷ [])) es rest

-- Words.

plain_word : (w : List ℕ) → is_word w ≡ true → list_all (λ c. not (c == 36)) w ≡ true
plain_word w h = and-right (is_name w) (list_all (λ c. not (c == 36)) w) (word_named w h)

judged-words : (env : Around) (before : Option ℕ) (es : List Entry) → AllByRecursion (λ e. IsWordName e.name) es → AllByRecursion (λ x. IsWordName x.0) (judged_from env before es).entries
judged-words env before [] h = tt
judged-words env before (e ∷ es) h = go (entry_number env before e) refl (λ k. judged-words env (Some k) es h.1)
  where
    go : (o : Outcome ℕ) → entry_number env before e ≡ o → ((k : ℕ) → AllByRecursion (λ x. IsWordName x.0) (judged_from env (Some k) es).entries) → AllByRecursion (λ x. IsWordName x.0) (judged_from env before (e ∷ es)).entries
    go (Ok k) q rest = rw q (h.0, rest k)
    go (Err f) q rest = rw q tt

all-plain : (es : List (Name × ℕ)) → AllByRecursion (λ x. IsWordName x.0) es → Each (λ (x : List ℕ × ℕ). IsTrue (list_all (λ c. not (c == 36)) x.0)) (map (λ e. (e.0.text.now, e.1)) es)
all-plain [] h = tt
all-plain (e ∷ es) h = (plain_word e.0.text.now h.0, all-plain es h.1)

enum-plain : (env : Around) (n : Name) (es : List Entry) → of_entries (judged env es) ≡ [] → AllByRecursion (λ e. IsWordName e.name) es → IsPlainEnum (enum_of env n es)
enum-plain env n es clean words =
    let js = (judged env es).entries in
    record {
      names = ap distinct (map-map (λ (x : List ℕ × ℕ). x.0) (λ (e : Name × ℕ). (e.0.text.now, e.1)) js) ∙ differ [] js (nil-right (option_to_list (judged env es).failure) (twice [] js) clean);
      plain = all-plain js (judged-words env None es words);
    }

-- The enumerations of a body.

abbrev pub ArePlain : Names → Type 0
ArePlain names = AllByRecursion IsPlainEnum names.enums

abbrev pub EntriesOf : ItemIs → Type 0
EntriesOf (view.definition d) = HaveWordEntries d.items.now
EntriesOf (view.enumeration n es) = AllByRecursion (λ e. IsWordName e.name) es
EntriesOf _ = Unit {0}

pub entries_of : (i : Item) → HasWordEntries i → EntriesOf (item_is i)
entries_of _ (entries.definition {d = d} h) = subst EntriesOf (sym (item_is-Def d)) h
entries_of _ (entries.enumeration h) = h
entries_of _ entries.made = tt
entries_of _ entries.default = tt
entries_of _ entries.local = tt
entries_of _ entries.dynamic = tt

bound-kept : (outer : Around) (names : Names) (is : List Item) → (with_items outer names is).bound ≡ names.bound
bound-kept outer names [] = refl
bound-kept outer names (i ∷ is) = bound-kept outer (with_item outer names (item_is i)) is ∙ by (item_is i)
  where
    by : (v : ItemIs) → (with_item outer names v).bound ≡ names.bound
    by (view.enumeration n es) = refl
    by (view.definition d) = refl
    by (view.made a of is) = refl
    by (view.default_ s) = refl
    by (view.local s) = refl
    by (view.dynamic p s) = refl

with-last : (outer : Around) (names : Names) (is : List Item) (i : Item) → with_items outer names (is ++ (i ∷ [])) ≡ with_item outer (with_items outer names is) (item_is i)
with-last outer names [] i = refl
with-last outer names (j ∷ is) i = with-last outer (with_item outer names (item_is j)) is i

module _ (outer : Around) (bound : Bound) where
  abbrev Clean : List Item × Item → Type 0
  Clean i = of_enum (names_of outer bound i.0 ∷ outer) (item_is i.1) ≡ []

  item-plain : (names : Names) (v : ItemIs) → ArePlain names → of_enum (names ∷ outer) v ≡ [] → EntriesOf v → ArePlain (with_item outer names v)
  item-plain names (view.enumeration n es) h e w = each-append IsPlainEnum names.enums (enum_of (names ∷ outer) n es ∷ []) h (enum-plain (names ∷ outer) n es e w, tt)
  item-plain names (view.definition d) h e w = h
  item-plain names (view.made a of is) h e w = h
  item-plain names (view.default_ s) h e w = h
  item-plain names (view.local s) h e w = h
  item-plain names (view.dynamic p s) h e w = h

  items-plain : (before is : List Item) → ArePlain (names_of outer bound before) → AllByRecursion Clean (standing_from before is) → HaveWordEntries is → ArePlain (with_items outer (names_of outer bound before) is)
  items-plain before [] h e w = h
  items-plain before (i ∷ is) h e (entries.more f fs) =
      let next = sym (with-last outer (record { bound = bound; enums = [] }) before i) in
      let one = item-plain (names_of outer bound before) (item_is i) h e.0 (entries_of i f) in
      subst (λ names. ArePlain (with_items outer names is)) (sym next) (items-plain (before ++ (i ∷ [])) is (subst ArePlain next one) e.1 fs)

pub body-plain : (b : Body) (bound : Bound) → b.names ≡ names_of (around b.outer) bound b.items → of_enums b ≡ [] → HaveWordEntries b.items → ArePlain b.names
body-plain b bound is clean w =
    let outer = around b.outer in
    let same : b.names.bound ≡ bound = ap (λ names. names.bound) is ∙ bound-kept outer (record { bound = bound; enums = [] }) b.items in
    let each = nil-each _ (standing b.items) clean in
    subst ArePlain (sym is) (items-plain outer bound [] b.items tt (each-imp _ _ (standing b.items) (λ i e. subst (λ x. of_enum (names_of outer x i.0 ∷ outer) (item_is i.1) ≡ []) same e) each) w)
