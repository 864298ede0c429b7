-- The views of a field, in the list of a block's views.
use Rattle.std.proofs.Common.{◌≡◌, ◌∙◌, inl, inr, ℕ, ◌==◌, Bool, true, false, not, ◌&&◌, ◌||◌, cond, List, [], ◌∷◌, ◌++◌, map, filter, flat_map, Option, None, Some, is_some, slice_get, append-nil, refl, sym, ap, subst}
use Rattle.std.specs.Cmp.Lexicographic.{bytes_decides}
use Rattle.std.specs.List.{list_any}
use Rattle.std.proofs.lemmas.Bool.{and_from, and_parts, and_right, eq-eqb, eqb-true, not-false}
use Rattle.plain_lemmas.proofs.Bools.{same-both_ways as both-ways}
use Rattle.rdl_base.specs.declared.rule.Rule.TheVariants as rules
use Rattle.rdl_props.specs.declared.prop.Prop.TheVariants as prop
use Rattle.rdl_tree.specs.declared.expr.Name.{Name}
use Rattle.rdl_tree.specs.declared.item.Kind.TheVariants as kind
use Rattle.rdl_tree.specs.declared.node.Elab.{Elab}
use Rattle.rdl_values.specs.Elaborated.{nodes_of, top_name}
use Rattle.rdl_values.specs.Faults.{at_}
use Rattle.rdl_values.specs.Instances.{Instance, is_empty}
use Rattle.rdl_values.specs.Lineages.{lineages_of, nodes_in}
use Rattle.rdl_values.specs.Uses.{same_name}
use Rattle.rdl_values.specs.Verdict.{IsListOf}
use Rattle.rdl_nodes.proofs.Lineages.{all_nodes}
use Rattle.rdl_layers.specs.Fields.{aliases, fields_of, is_a, is_alias, is_alias_of, same_steps, steps_up, views}
use Rattle.rdl_nodes.proofs.Members.{In, flat-in, in-flat, in-map, in-place, in-to, map-in, place-in}
use Rattle.rdl_addr.specs.Bits.{Bits, bits_of}
use Rattle.rb_model.specs.declared.block.Block.{Block}
use Rattle.rb_model.specs.declared.block.Field.{Field}
use Rattle.rb_model.specs.declared.block.View.{View}
use Rattle.rdl_rules.specs.Answers.{meaning_fails}
use Rattle.rdl_rules.specs.Block.{IsBlockOf}
use Rattle.rdl_rules.specs.Block as block_of
use Rattle.rdl_rules.specs.FieldRules.{at_node, of_view}
use Rattle.rdl_rules.specs.Fields.{first_number, view_of, viewed}
use Rattle.rdl_rules.specs.Numbers.{all_fields, number_of, primaries, registers}
use Rattle.rdl_rules.specs.RegisterRules.{against_primary, differs, is_same_bits, of_alias, of_fields}
use Rattle.rdl_fields.proofs.Lists.{filter-in, filter-true, in-filter}
use Rattle.rdl_fields.proofs.Fields.{field-in, nodes-are}
use Rattle.rdl_sound_laws.proofs.Fed.{none-both, when-none}
use Rattle.rdl_sound_laws.proofs.Faultless.{register-nil}
use Rattle.rdl_sound_laws.specs.Fielded.{HavePrimaries}
use Rattle.rdl_block_laws.proofs.FieldPlaces.{IsOf}
use Rattle.rdl_block_laws.proofs.Counted.{number-at}
use Rattle.rdl_block_laws.proofs.Names.{one-name, one-register, own-apart}
use Rattle.rdl_base.specs.declared.fault.Fault.{Fault}

-- Names and lists.

same-text : (m n : Name) → same_name m n ≡ true → m.text.now ≡ n.text.now
same-text m n e = (bytes_decides m.text.now n.text.now).0 e

text-same : (m n : Name) → m.text.now ≡ n.text.now → same_name m n ≡ true
text-same m n e = (bytes_decides m.text.now n.text.now).1 e

nil-each : {X : Type 0} (f : X → List Fault) (xs : List X) (x : X) → flat_map f xs ≡ [] → In xs x → f x ≡ []
nil-each f [] x e h = absurd h
nil-each f (y ∷ ys) x e (inl s) = subst (λ z. f z ≡ []) s (none-both (f y) (flat_map f ys) e).0
nil-each f (y ∷ ys) x e (inr h) = nil-each f ys x (none-both (f y) (flat_map f ys) e).1 h

any-in : {X : Type 0} (p : X → Bool) (xs : List X) → list_any p xs ≡ true → (x : X) × In xs x × (p x ≡ true)
any-in p [] e = cc e
any-in p (x ∷ xs) e = go (p x) refl e (any-in p xs)
  where
    go : (b : Bool) → p x ≡ b → (b || list_any p xs) ≡ true → (list_any p xs ≡ true → (y : _) × In xs y × (p y ≡ true)) → (y : _) × In (x ∷ xs) y × (p y ≡ true)
    go true q h rest = (x, inl refl, q)
    go false q h rest = let r = rest h in (r.0, inr r.1, r.2)

in-any : {X : Type 0} (p : X → Bool) (xs : List X) (x : X) → In xs x → p x ≡ true → list_any p xs ≡ true
in-any p [] x h e = absurd h
in-any p (y ∷ ys) x (inl s) e = ap (λ b. b || list_any p ys) (ap p s ∙ e)
in-any p (y ∷ ys) x (inr h) e = go (p y) (in-any p ys x h e)
  where
    go : (b : Bool) → list_any p ys ≡ true → (b || list_any p ys) ≡ true
    go true h = refl
    go false h = h

-- an alias names a register
names-register : (r a : Instance) → is_alias_of r a ≡ true → is_alias a ≡ true
names-register r a e = go a.use_.alias refl
  where
    go : (o : Option Name) → a.use_.alias ≡ o → is_alias a ≡ true
    go (Some n) q = ap is_some q
    go None q = let none : is_alias_of r a ≡ false = rw q (ap (λ b. b && same_steps (steps_up r.path) (steps_up a.path)) (and_right (is_a kind.Reg a) false refl)) in let two : true ≡ false = sym e ∙ none in cc two

alias-register : (r a : Instance) → is_alias_of r a ≡ true → is_a kind.Reg a ≡ true
alias-register r a e = go a.use_.alias refl
  where
    go : (o : Option Name) → a.use_.alias ≡ o → is_a kind.Reg a ≡ true
    go (Some n) q =
        let test : is_alias_of r a ≡ (is_a kind.Reg a && same_name n r.use_.name && same_steps (steps_up r.path) (steps_up a.path)) = rw q refl in
        let parts = sym test ∙ e in
        (and_parts (is_a kind.Reg a) (same_name n r.use_.name) (and_parts (is_a kind.Reg a && same_name n r.use_.name) (same_steps (steps_up r.path) (steps_up a.path)) parts).0).0
    go None q = let none : is_alias_of r a ≡ false = rw q (ap (λ b. b && same_steps (steps_up r.path) (steps_up a.path)) (and_right (is_a kind.Reg a) false refl)) in let two : true ≡ false = sym e ∙ none in cc two

-- What views are of.

module _ (e : Elab) where
  -- in a list of nodes, as the block has it
  first-of : (r v : Instance) → (view_of (lineages_of e) r v).field ≡ first_number (viewed (nodes_of e) r v) (all_fields (nodes_of e))
  first-of r v = ap (λ ns. first_number (viewed ns r v) (all_fields ns)) (all_nodes (Some (top_name e)) e.source.now)

  pub own-view : (r v : Instance) → is_alias r ≡ false → (view_of (lineages_of e) r v).field ≡ number_of v (all_fields (nodes_of e))
  own-view r v own = first-of r v ∙ ap (λ xs. first_number xs (all_fields (nodes_of e))) itself
    where
      itself : viewed (nodes_of e) r v ≡ v ∷ []
      itself = rw own refl

  in-all : (r f : Instance) → In (registers (nodes_of e)) r → is_alias r ≡ false → In (fields_of r) f → In (all_fields (nodes_of e)) f
  in-all r f i own h = in-flat fields_of (primaries (nodes_of e)) r f (in-filter (λ x. not (is_alias x)) (registers (nodes_of e)) r i (ap not own)) h

  -- the view of an alias's field, where the primary has one of its name
  module _ (a r v : Instance) (alias : is_alias a ≡ true) (only : filter (λ p. is_alias_of p a) (registers (nodes_of e)) ≡ r ∷ []) where
    viewed-is : viewed (nodes_of e) a v ≡ filter (λ f. same_name v.use_.name f.use_.name) (fields_of r)
    viewed-is = first ∙ (ap (λ rs. filter (λ f. same_name v.use_.name f.use_.name) (flat_map fields_of rs)) only ∙ ap (filter (λ f. same_name v.use_.name f.use_.name)) (append-nil (fields_of r)))
      where
        first : viewed (nodes_of e) a v ≡ filter (λ f. same_name v.use_.name f.use_.name) (flat_map fields_of (filter (λ p. is_alias_of p a) (registers (nodes_of e))))
        first = rw alias refl

    alias-view : (g : Instance) → In (fields_of r) g → same_name v.use_.name g.use_.name ≡ true → (f : Instance) × In (fields_of r) f × (v.use_.name.text.now ≡ f.use_.name.text.now) × ((view_of (lineages_of e) a v).field ≡ number_of f (all_fields (nodes_of e)))
    alias-view g h same = by (filter (λ f. same_name v.use_.name f.use_.name) (fields_of r)) viewed-is (in-filter (λ f. same_name v.use_.name f.use_.name) (fields_of r) g h same) (λ f k. (filter-in (λ x. same_name v.use_.name x.use_.name) (fields_of r) f k, same-text v.use_.name f.use_.name (filter-true (λ x. same_name v.use_.name x.use_.name) (fields_of r) f k)))
      where
        by : (xs : List Instance) → viewed (nodes_of e) a v ≡ xs → In xs g → ((f : Instance) → In xs f → In (fields_of r) f × (v.use_.name.text.now ≡ f.use_.name.text.now)) → (f : Instance) × In (fields_of r) f × (v.use_.name.text.now ≡ f.use_.name.text.now) × ((view_of (lineages_of e) a v).field ≡ number_of f (all_fields (nodes_of e)))
        by [] q i u = absurd i
        by (f ∷ fs) q i u = let is = u f (inl refl) in (f, is.0, is.1, first-of a v ∙ ap (λ xs. first_number xs (all_fields (nodes_of e))) q)

  -- F12: the primary has a field of the name
  named-field : IsListOf (meaning_fails e) [] → (a r v : Instance) → In (registers (nodes_of e)) a → is_alias a ≡ true → In (filter (λ p. is_alias_of p a) (registers (nodes_of e))) r → In (fields_of a) v → (g : Instance) × In (fields_of r) g × (same_name v.use_.name g.use_.name ≡ true)
  named-field none a r v i alias mate h =
      let mine = map-in (λ (x : Bits). x.node) (bits_of a) v (subst (λ ns. In ns v) (sym (nodes-are a)) h) in
      let bits = flat_map (of_view a) (bits_of a) in
      let own = cond (is_alias a) (of_alias (nodes_of e) a) (of_fields (nodes_of e) a) in
      let last = at_node rules.F14 a (is_empty (fields_of a)) in
      let chosen : own ≡ [] = (none-both bits own (none-both (bits ++ own) last (register-nil e none a i)).0).1 in
      let mates : of_alias (nodes_of e) a ≡ [] = subst (λ b. cond b (of_alias (nodes_of e) a) (of_fields (nodes_of e) a) ≡ []) alias chosen in
      let against = nil-each (against_primary a) (filter (λ p. is_alias_of p a) (registers (nodes_of e))) r mates mate in
      let each = λ (x : Bits). at_node rules.F12 x.node (not (list_any (is_same_bits x) (bits_of r))) in
      let all_bits : flat_map each (bits_of a) ≡ [] = (none-both (at_node rules.F12 a (differs r a prop.Regwidth || differs r a prop.Accesswidth)) (flat_map each (bits_of a)) against).1 in
      let one = nil-each each (bits_of a) mine.0 all_bits mine.1 in
      let some = not-false (list_any (is_same_bits mine.0) (bits_of r)) (when-none (not (list_any (is_same_bits mine.0) (bits_of r))) (at_ rules.F12 mine.0.node.use_.name.place) one) in
      let c = any-in (is_same_bits mine.0) (bits_of r) some in
      let names = same-part mine.0 c.0 c.2 in
      (c.0.node, field-in r c.0 c.1, subst (λ (n : Instance). same_name n.use_.name c.0.node.use_.name ≡ true) mine.2 names)
    where
      same-part : (b c : Bits) → is_same_bits b c ≡ true → same_name b.node.use_.name c.node.use_.name ≡ true
      same-part b c q = (and_parts (same_name b.node.use_.name c.node.use_.name) (b.high == c.high) (and_parts (same_name b.node.use_.name c.node.use_.name && (b.high == c.high)) (b.low == c.low) q).0).0

-- The views of one field.

module _ (e : Elab) (waits : ℕ) (b : Block) (none : IsListOf (meaning_fails e) []) (block : IsBlockOf (Some (top_name e)) e.source.now waits b) (mates : HavePrimaries (nodes_of e)) (k : ℕ) (f : Field) (o : IsOf (Some (top_name e)) e.source.now k f) where
  reg : In (registers (nodes_of e)) o.above.register.node
  reg = place-in (registers (nodes_of e)) o.above.number o.above.register.node o.listed

  -- the one field of the number
  numbered : (n : Instance) → In (all_fields (nodes_of e)) n → number_of n (all_fields (nodes_of e)) ≡ k → n ≡ o.node
  numbered n i q =
      let at = in-place (all_fields (nodes_of e)) n i in
      let same : at.0 ≡ k = sym (number-at (all_fields (nodes_of e)) (own-apart e) at.0 n at.2) ∙ q in
      let both : Some n ≡ Some o.node = sym at.2 ∙ (ap (slice_get (all_fields (nodes_of e))) same ∙ o.here) in
      cc both

  own-number : number_of o.node (all_fields (nodes_of e)) ≡ k
  own-number = number-at (all_fields (nodes_of e)) (own-apart e) k o.node o.here

  -- Views through aliases of its register.

  -- an alias with a primary that has the field is one of its register
  alias-of : (a p f : Instance) → In (filter (λ x. is_alias_of x a) (registers (nodes_of e))) p → In (fields_of p) f → f ≡ o.node → is_alias_of o.above.register.node a ≡ true
  alias-of a p f mate h same =
      let p_reg = filter-in (λ x. is_alias_of x a) (registers (nodes_of e)) p mate in
      let one = one-register e p o.above.register.node p_reg reg o.node (subst (In (fields_of p)) same h) o.inside in
      subst (λ x. is_alias_of x a ≡ true) one (filter-true (λ x. is_alias_of x a) (registers (nodes_of e)) p mate)

  among-views : (a v : Instance) → In (registers (nodes_of e)) a → is_alias_of o.above.register.node a ≡ true → In (fields_of a) v → v.use_.name.text.now ≡ o.node.use_.name.text.now → In (views (nodes_of e) o.above.register.node o.node) v
  among-views a v i of h name =
      let mine = in-filter (is_alias_of o.above.register.node) (nodes_of e) a (filter-in (is_a kind.Reg) (nodes_of e) a i) of in
      let like = in-filter (λ g. same_name g.use_.name o.node.use_.name) (fields_of a) v h (text-same v.use_.name o.node.use_.name name) in
      inr (in-flat (λ x. filter (λ g. same_name g.use_.name o.node.use_.name) (fields_of x)) (aliases (nodes_of e) o.above.register.node) a v mine like)

  -- a view of the number, by the primary of its alias
  by-primary : (a p v : Instance) → In (registers (nodes_of e)) a → is_alias a ≡ true → filter (λ x. is_alias_of x a) (registers (nodes_of e)) ≡ p ∷ [] → is_alias p ≡ false → In (fields_of a) v → (view_of (lineages_of e) a v).field ≡ k → In (views (nodes_of e) o.above.register.node o.node) v
  by-primary a p v i alias only own h q =
      let mate : In (filter (λ x. is_alias_of x a) (registers (nodes_of e))) p = subst (λ xs. In xs p) (sym only) (inl refl) in
      let g = named-field e none a p v i alias mate h in
      let x = alias-view e a p v alias only g.0 g.1 g.2 in
      let same = numbered x.0 (in-all e p x.0 (filter-in (λ y. is_alias_of y a) (registers (nodes_of e)) p mate) own x.1) (sym x.3 ∙ q) in
      among-views a v i (alias-of a p x.0 mate x.1 same) h (x.2 ∙ ap (λ (n : Instance). n.use_.name.text.now) same)

  alone : (p : Instance) (xs : List Instance) → xs ≡ p ∷ [] → (q : Instance) → In xs q → p ≡ q
  alone p xs e q i = by (subst (λ ys. In ys q) e i)
    where
      by : In (p ∷ []) q → p ≡ q
      by (inl s) = s
      by (inr j) = absurd j

  -- the view of an alias's field of the name is of the number
  alias-number : (a v : Instance) → In (registers (nodes_of e)) a → is_alias_of o.above.register.node a ≡ true → v.use_.name.text.now ≡ o.node.use_.name.text.now → (view_of (lineages_of e) a v).field ≡ k
  alias-number a v i of name =
      let alias = names-register o.above.register.node a of in
      let m = mates a (in-to (registers (nodes_of e)) a i) alias in
      let one = alone m.0 (filter (λ p. is_alias_of p a) (registers (nodes_of e))) m.1 o.above.register.node (in-filter (λ p. is_alias_of p a) (registers (nodes_of e)) o.above.register.node reg of) in
      let x = alias-view e a o.above.register.node v alias (m.1 ∙ ap (λ p. p ∷ []) one) o.node o.inside (text-same v.use_.name o.node.use_.name name) in
      let same = one-name e o.above.register.node reg x.0 o.node x.1 o.inside (sym x.2 ∙ name) in
      x.3 ∙ (ap (λ n. number_of n (all_fields (nodes_of e))) same ∙ own-number)

  -- All views.

  -- a field whose view is of the number is a view of the field
  is-view : (r v : Instance) → In (registers (nodes_of e)) r → In (fields_of r) v → (view_of (lineages_of e) r v).field ≡ k → In (views (nodes_of e) o.above.register.node o.node) v
  is-view r v i h q = by (is_alias r) refl
    where
      by : (t : Bool) → is_alias r ≡ t → In (views (nodes_of e) o.above.register.node o.node) v
      by false own = inl (sym (numbered v (in-all e r v i own h) (sym (own-view e r v own) ∙ q)))
      by true alias = let m = mates r (in-to (registers (nodes_of e)) r i) alias in by-primary r m.0 v i alias m.1 m.2 h q

  -- each view of the field stands in a register, and is of the number
  view-is : (v : Instance) → In (views (nodes_of e) o.above.register.node o.node) v → (r : Instance) × In (registers (nodes_of e)) r × In (fields_of r) v × ((view_of (lineages_of e) r v).field ≡ k)
  view-is v (inl q) = (o.above.register.node, reg, subst (In (fields_of o.above.register.node)) q o.inside, own-view e o.above.register.node v o.own_ ∙ (ap (λ n. number_of n (all_fields (nodes_of e))) (sym q) ∙ own-number))
  view-is v (inr h) =
      let a = flat-in (λ x. filter (λ g. same_name g.use_.name o.node.use_.name) (fields_of x)) (aliases (nodes_of e) o.above.register.node) v h in
      let of = filter-true (is_alias_of o.above.register.node) (nodes_of e) a.0 a.1 in
      let a_reg = in-filter (is_a kind.Reg) (nodes_of e) a.0 (filter-in (is_alias_of o.above.register.node) (nodes_of e) a.0 a.1) (alias-register o.above.register.node a.0 of) in
      let name = same-text v.use_.name o.node.use_.name (filter-true (λ g. same_name g.use_.name o.node.use_.name) (fields_of a.0) v a.2) in
      (a.0, a_reg, filter-in (λ g. same_name g.use_.name o.node.use_.name) (fields_of a.0) v a.2, alias-number a.0 v a_reg of name)

  -- so a test of the views of the number is one of the field's views
  pub over-views : (p : View → Bool) (t : Instance → Bool) → ((r v : Instance) → p (view_of (lineages_of e) r v) ≡ t v) → list_any (λ v. v.field == k && p v) b.views ≡ list_any t (views (nodes_of e) o.above.register.node o.node)
  over-views p t same = both-ways (list_any (λ v. v.field == k && p v) b.views) (list_any t (views (nodes_of e) o.above.register.node o.node)) there back
    where
      there : list_any (λ v. v.field == k && p v) b.views ≡ true → list_any t (views (nodes_of e) o.above.register.node o.node) ≡ true
      there h =
          let all = lineages_of e in
          let v = any-in (λ (v : View). v.field == k && p v) b.views h in
          let i = subst (λ vs. In vs v.0) block.views_ v.1 in
          let r = flat-in (λ r. map (view_of all r) (fields_of r)) (registers (nodes_in all)) v.0 i in
          let g = map-in (view_of all r.0) (fields_of r.0) v.0 r.2 in
          let parts = and_parts ((view_of all r.0 g.0).field == k) (p (view_of all r.0 g.0)) (subst (λ (x : View). (x.field == k && p x) ≡ true) (sym g.2) v.2) in
          let r_reg = subst (λ ns. In (registers ns) r.0) (all_nodes (Some (top_name e)) e.source.now) r.1 in
          in-any t (views (nodes_of e) o.above.register.node o.node) g.0 (is-view r.0 g.0 r_reg g.1 (eqb-true (view_of all r.0 g.0).field k parts.0)) (sym (same r.0 g.0) ∙ parts.1)

      back : list_any t (views (nodes_of e) o.above.register.node o.node) ≡ true → list_any (λ v. v.field == k && p v) b.views ≡ true
      back h =
          let all = lineages_of e in
          let v = any-in t (views (nodes_of e) o.above.register.node o.node) h in
          let r = view-is v.0 v.1 in
          let r_reg = subst (λ ns. In (registers ns) r.0) (sym (all_nodes (Some (top_name e)) e.source.now)) r.1 in
          let i : In (block_of.views all) (view_of all r.0 v.0) = in-flat (λ r. map (view_of all r) (fields_of r)) (registers (nodes_in all)) r.0 (view_of all r.0 v.0) r_reg (in-map (view_of all r.0) (fields_of r.0) v.0 r.2) in
          in-any (λ (v : View). v.field == k && p v) b.views (view_of all r.0 v.0) (subst (λ vs. In vs (view_of all r.0 v.0)) (sym block.views_) i) (and_from ((view_of all r.0 v.0).field == k) (p (view_of all r.0 v.0)) (eq-eqb (view_of all r.0 v.0).field k r.3) (same r.0 v.0 ∙ v.2))
