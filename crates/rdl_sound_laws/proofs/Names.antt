-- The names of a block and its parts.
use Rattle.std.proofs.Common.{◌≡◌, ◌≢◌, ◌∙◌, inl, ℕ, ◌<◌, ◌≤◌, ◌==◌, Bool, true, false, not, ◌&&◌, ◌||◌, IsTrue, List, [], ◌∷◌, ◌++◌, map, flat_map, codes, if◌then◌else◌, cond, Option, Some, refl, sym, ap, subst, arith}
use Rattle.std.specs.Char.{is_ascii_digit}
use Rattle.std.specs.List.{AllByRecursion, list_all}
use Rattle.std.proofs.lemmas.List.{append_cancel_left, map-append}
use Rattle.std.proofs.lemmas.List.Elements.{recursion_from_All}
use Rattle.plain_lemmas.proofs.Lists.{each-append, each-filter, each-flat_map, each-imp, filter-each as passed, flat_map-alike as flat-same, map-flat_map as map-flat, map-map}
use Rattle.plain_lemmas.proofs.Bools.{and-left}
use Rattle.rb_model.specs.declared.block.Block.{Block}
use Rattle.rb_model.specs.Ports.{signal_name}
use Rattle.rb_model.specs.References.{Each}
use Rattle.rb_model.specs.Sound.{is_path}
use Rattle.rdl_base.specs.declared.fault.Fault.{Fault}
use Rattle.rdl_base.specs.declared.rule.Rule.TheVariants as rules
use Rattle.rdl_tree.specs.declared.item.Kind.{Kind}
use Rattle.rdl_tree.specs.declared.item.Kind.TheVariants as kind
use Rattle.rdl_tree.specs.declared.item.Source.{Source}
use Rattle.rdl_tree.specs.declared.node.Elab.{Elab}
use Rattle.rdl_tree.specs.Words.{IsWordName, is_in_word, is_letter, is_word}
use Rattle.rdl_values.specs.Elaborated.{HasWords, nodes_of, top_name}
use Rattle.rdl_values.specs.Elaboration.{IsClean}
use Rattle.rdl_values.specs.Faults.{at_, when}
use Rattle.rdl_values.specs.Instances.{Instance, children, kind_of, most_names, nodes, signals, top_of, with_below}
use Rattle.rdl_values.specs.Lineages.{Lineage, lineages, nodes_in}
use Rattle.rdl_values.specs.NoNode.{may_hold}
use Rattle.rdl_values.specs.Paths.{Path, Step, at_root, below_top, of_signal, path_text}
use Rattle.rdl_values.proofs.Given.{IsAtRoot, held, signals-given, tops-given}
use Rattle.rdl_nodes.proofs.Apart.{Across, Apart, across, apart-flat_map, apart-imp}
use Rattle.rdl_nodes.proofs.Lineages.{all_nodes}
use Rattle.rdl_nodes.proofs.Paths.{Differ, IsChild, IsUnder, are_children, children_apart, nodes_apart, under}
use Rattle.rdl_tree.specs.Kinds.{same_kind}
use Rattle.rdl_layers.specs.Answers.{IsSettled}
use Rattle.rdl_layers.specs.Fields.{all_but_last, fields_of, is_a, is_alias}
use Rattle.rdl_layers.specs.Phase4.{bad_width, of_node}
use Rattle.rdl_nodes.proofs.Members.{In, each-in, in-flat, in-right, in-to}
use Rattle.rdl_sound_laws.proofs.Closed.{all-closed, nodes-in}
use Rattle.rdl_refs.specs.Leads.{is_at_root}
use Rattle.rdl_sizes.proofs.Settled.{settled-node}
use Rattle.rdl_rules.specs.Block.{IsBlockOf, fields, reg_of, signal_of, views}
use Rattle.rdl_rules.specs.Fields.{field_of, view_of}
use Rattle.rdl_rules.specs.Numbers.{Numbered, all_fields, all_signals, primaries, registers}
use Rattle.rdl_sound_laws.proofs.Found.{own, own-fields, pairs, with-registers}
use Rattle.rdl_sound_laws.proofs.Alone.{wide}
use Rattle.rdl_sound_laws.proofs.Texts.{differ, spelled}
use Rattle.v_design.specs.Lexemes.{is_name, is_name_byte}
use Rattle.v_design.specs.WellFormed.{distinct}
use Rattle.rdl_sound_laws.proofs.Distinct.{apart-filter, distinct_by, good_paths}

-- The name of the block.

and-right : (a b : Bool) → a && b ≡ true → b ≡ true
and-right true b h = h
and-right false b h = cc

name_byte : (b : ℕ) → is_in_word b ≡ true → is_name_byte b ≡ true
name_byte b h = go (is_letter b) (is_ascii_digit b) h
  where
    go : (l d : Bool) → l || d ≡ true → (l || d) || (b == 36) ≡ true
    go true d h = refl
    go false true h = refl
    go false false h = cc

no_dollar : (b : ℕ) → is_in_word b ≡ true → not (b == 36) ≡ true
no_dollar b h = grind (arith, h)

letter : (b : ℕ) → is_letter b ≡ true → is_in_word b ≡ true
letter b h = ap (λ l. l || is_ascii_digit b) h

name_bytes : (bs : List ℕ) → list_all is_in_word bs ≡ true → list_all is_name_byte bs ≡ true
name_bytes [] h = refl
name_bytes (b ∷ bs) h = ap (λ t. t && list_all is_name_byte bs) (name_byte b (and-left (is_in_word b) (list_all is_in_word bs) h)) ∙ name_bytes bs (and-right (is_in_word b) (list_all is_in_word bs) h)

no_dollars : (bs : List ℕ) → list_all is_in_word bs ≡ true → list_all (λ c. not (c == 36)) bs ≡ true
no_dollars [] h = refl
no_dollars (b ∷ bs) h = ap (λ t. t && list_all (λ c. not (c == 36)) bs) (no_dollar b (and-left (is_in_word b) (list_all is_in_word bs) h)) ∙ no_dollars bs (and-right (is_in_word b) (list_all is_in_word bs) h)

pub word_named : (w : List ℕ) → is_word w ≡ true → is_name w && list_all (λ c. not (c == 36)) w ≡ true
word_named [] h = cc
word_named (b ∷ bs) h =
    let first = and-left (is_letter b) (list_all is_in_word bs) h in
    let rest = and-right (is_letter b) (list_all is_in_word bs) h in
    ap (λ t. (t && list_all is_name_byte bs) && list_all (λ c. not (c == 36)) (b ∷ bs)) first
    ∙ ap (λ t. t && list_all (λ c. not (c == 36)) (b ∷ bs)) (name_bytes bs rest)
    ∙ ap (λ t. t && list_all (λ c. not (c == 36)) bs) (no_dollar b (letter b first))
    ∙ no_dollars bs rest

-- Where nodes stand.

no_signal : (k : Kind) → may_hold at_root k ≡ true → k ≡ kind.Reg → ⊥
no_signal k h e = let no : false ≡ true = subst (λ x. may_hold at_root x ≡ true) e h in cc

abbrev IsUnderTop : Instance → Type 0
IsUnderTop n = is_at_root n.path ≡ false

under_top : (n : Instance) (ss : List Step) → n.path ≡ below_top ss → IsUnderTop n
under_top n ss e = ap is_at_root e

-- a node that is no signal stands under the top
abbrev MayBe : Instance → Type 0
MayBe n = kind_of n ≡ kind.Reg → IsUnderTop n

signals_may : (s : Source) → AllByRecursion MayBe (signals s)
signals_may s = each-imp IsAtRoot MayBe (signals s) (λ n h r. absurd (no_signal (kind_of n) (subst (λ p. may_hold p (kind_of n) ≡ true) h.in_body (held h.by n h.given_)) r)) (signals-given s)

tops_may : (wanted : Option (List ℕ)) (s : Source) → AllByRecursion MayBe (flat_map (with_below most_names) (top_of wanted s))
tops_may wanted s = each-flat_map MayBe (with_below most_names) (top_of wanted s) (each-imp (λ n. n.path ≡ below_top []) (λ n. AllByRecursion MayBe (with_below most_names n)) (top_of wanted s) (λ n e. each-imp (IsUnder []) MayBe (with_below most_names n) (λ m h r. under_top m h.0 h.1) (under most_names n [] e)) (tops-given wanted s))

nodes_may : (wanted : Option (List ℕ)) (s : Source) → AllByRecursion MayBe (nodes wanted s)
unfolding nodes
nodes_may wanted s = each-append MayBe (signals s) (flat_map (with_below most_names) (top_of wanted s)) (signals_may s) (tops_may wanted s)

the_reg : (k : Kind) → same_kind kind.Reg k ≡ true → k ≡ kind.Reg
the_reg kind.Addrmap h = cc
the_reg kind.Regfile h = cc
the_reg kind.Reg h = refl
the_reg kind.Field h = cc
the_reg kind.Signal h = cc

the_signal : (k : Kind) → same_kind kind.Signal k ≡ true → k ≡ kind.Signal
the_signal kind.Addrmap h = cc
the_signal kind.Regfile h = cc
the_signal kind.Reg h = cc
the_signal kind.Field h = cc
the_signal kind.Signal h = refl

front_of : (ss : List Step) (t : Step) → all_but_last (ss ++ (t ∷ [])) ≡ ss
front_of [] t = refl
front_of (s ∷ []) t = refl
front_of (s ∷ u ∷ ss) t = ap (λ xs. s ∷ xs) (front_of (u ∷ ss) t)

pub same_front : (ss ts : List Step) (t u : Step) → ss ++ (t ∷ []) ≡ ts ++ (u ∷ []) → ss ≡ ts
same_front ss ts t u e = sym (front_of ss t) ∙ ap all_but_last e ∙ front_of ts u

top_in : (wanted : Option (List ℕ)) (s : Source) (t : Instance) → In (top_of wanted s) t → In (nodes wanted s) t
unfolding nodes
top_in wanted s t i = in-right (signals s) (flat_map (with_below most_names) (top_of wanted s)) t (in-flat (with_below most_names) (top_of wanted s) t t i (inl refl))

-- Registers and their fields.

module _ (wanted : Option (List ℕ)) (s : Source) where
  abbrev ns : List Instance
  ns = nodes wanted s

  -- a register under the top
  pub record IsRegister (r : Instance) : Type 0 where
    pub node : In ns r
    pub steps : List Step
    pub path_is : r.path ≡ below_top steps

  steps_of_path : (p : Path) → is_at_root p ≡ false → (ss : List Step) × (p ≡ below_top ss)
  steps_of_path (of_signal t) h = cc
  steps_of_path (below_top ss) h = (ss, refl)

  pub all_registers : AllByRecursion IsRegister (registers ns)
  all_registers = both ns (nodes-in wanted s) (nodes_may wanted s)
    where
      one : (n : Instance) (b : Bool) → is_a kind.Reg n ≡ b → (rest : List Instance) → In ns n → MayBe n → AllByRecursion IsRegister rest → AllByRecursion IsRegister (cond b (n ∷ rest) rest)
      one n false e rest i m h = h
      one n true e rest i m h = let at = steps_of_path n.path (m (the_reg (kind_of n) e)) in (record { node = i; steps = at.0; path_is = at.1 }, h)

      both : (ms : List Instance) → AllByRecursion (In ns) ms → AllByRecursion MayBe ms → AllByRecursion IsRegister (registers ms)
      both [] i m = tt
      both (x ∷ xs) i m = one x (is_a kind.Reg x) refl (registers xs) i.0 m.0 (both xs i.1 m.1)

  pub registers_apart : Apart Differ (registers ns)
  registers_apart = apart-filter Differ (is_a kind.Reg) ns (nodes_apart wanted s)

  -- a field of a register, or another node under the top
  record IsNode (n : Instance) : Type 0 where
    node : In ns n
    under_ : IsUnderTop n

  register_node : (r : Instance) → IsRegister r → IsNode r
  register_node r h = record { node = h.node; under_ = under_top r h.steps h.path_is }

  field_nodes : (r : Instance) → IsRegister r → AllByRecursion IsNode (fields_of r)
  field_nodes r h = each-filter IsNode (is_a kind.Field) (children r) (both (children r) (each-in (λ x. AllByRecursion (In ns) (children x)) ns r (all-closed wanted s) h.node) (are_children r h.steps h.path_is))
    where
      both : (cs : List Instance) → AllByRecursion (In ns) cs → AllByRecursion (IsChild h.steps) cs → AllByRecursion IsNode cs
      both [] i c = tt
      both (x ∷ xs) i c = (record { node = i.0; under_ = under_top x (h.steps ++ (c.0.0 ∷ [])) c.0.1 }, both xs i.1 c.1)

  abbrev steps_in : Path → List Step
  steps_in (of_signal t) = []
  steps_in (below_top ss) = ss

  apart_fields : (r q : Instance) → IsRegister r → IsRegister q → Differ r q → Across Differ (fields_of r) (fields_of q)
  apart_fields r q h g d = across (IsChild h.steps) (IsChild g.steps) Differ (fields_of r) (fields_of q) (λ x y c k e. d (h.path_is ∙ ap below_top (same_front h.steps g.steps c.0 k.0 (ap steps_in (sym c.1 ∙ e ∙ k.1))) ∙ sym g.path_is)) (each-filter (IsChild h.steps) (is_a kind.Field) (children r) (are_children r h.steps h.path_is)) (each-filter (IsChild g.steps) (is_a kind.Field) (children q) (are_children q g.steps g.path_is))

  module _ (rs : List Instance) (all : AllByRecursion IsRegister rs) (apart : Apart Differ rs) where
    fields_nodes : AllByRecursion IsNode (flat_map fields_of rs)
    fields_nodes = each-flat_map IsNode fields_of rs (each-imp IsRegister (λ r. AllByRecursion IsNode (fields_of r)) rs (λ r h. field_nodes r h) all)

    pub fields_apart : Apart Differ (flat_map fields_of rs)
    fields_apart = apart-flat_map Differ fields_of rs (apart-imp IsRegister Differ (λ a b. Across Differ (fields_of a) (fields_of b)) rs (λ a b h g d. apart_fields a b h g d) all apart) (each-imp IsRegister (λ r. Apart Differ (fields_of r)) rs (λ r h. apart-filter Differ (is_a kind.Field) (children r) (children_apart r h.steps h.path_is)) all)

-- Lists of the block, by the nodes that they tell of.

abbrev text : Instance → List ℕ
text n = path_text n.path

field_texts : (wanted : Option (List ℕ)) (s : Source) → map (λ f. f.path) (fields s (lineages wanted s)) ≡ map text (all_fields (nodes wanted s))
field_texts wanted s =
    let all = lineages wanted s in
    ap (map (λ f. f.path)) (sym (with-registers s all (own all)))
    ∙ map-map (λ f. f.path) (λ (p : Numbered Lineage × Instance). field_of s all p.0 p.1) (pairs (own all))
    ∙ sym (map-map text (λ (p : Numbered Lineage × Instance). p.1) (pairs (own all)))
    ∙ ap (map text) (own-fields all ∙ ap all_fields (all_nodes wanted s))

view_texts : (wanted : Option (List ℕ)) (s : Source) → map (λ v. v.path) (views (lineages wanted s)) ≡ map text (flat_map fields_of (registers (nodes wanted s)))
view_texts wanted s =
    let all = lineages wanted s in
    map-flat (λ v. v.path) (λ r. map (view_of all r) (fields_of r)) (registers (nodes_in all))
    ∙ flat-same (λ r. map (λ v. v.path) (map (view_of all r) (fields_of r))) (λ r. map text (fields_of r)) (registers (nodes_in all)) (λ r. map-map (λ v. v.path) (view_of all r) (fields_of r))
    ∙ sym (map-flat text fields_of (registers (nodes_in all)))
    ∙ ap (λ ns. map text (flat_map fields_of (registers ns))) (all_nodes wanted s)

module _ (e : Elab) (waits : ℕ) (b : Block) (clean : IsClean e) (words : HasWords (Some (top_name e)) e.source.now) (is : IsBlockOf (Some (top_name e)) e.source.now waits b) where
  abbrev w : Option (List ℕ)
  w = Some (top_name e)

  abbrev src : Source
  src = e.source.now

  has_word : (n : Instance) → In (nodes_of e) n → IsWordName n.use_.name
  has_word n i = each-in (λ m. IsWordName m.use_.name) (nodes_of e) n (recursion_from_All (λ m. IsWordName m.use_.name) (nodes_of e) words) i

  pub named : IsTrue (is_name b.name && list_all (λ c. not (c == 36)) b.name)
  named = go (top_of w src) refl is.name
    where
      first_or : List ℕ → List (List ℕ) → List ℕ
      first_or d [] = d
      first_or d (x ∷ xs) = x

      go : (ts : List Instance) → top_of w src ≡ ts → map (λ n. n.use_.name.text.now) ts ≡ b.name ∷ [] → is_name b.name && list_all (λ c. not (c == 36)) b.name ≡ true
      go [] e h = cc
      go (t ∷ ts) e h = subst (λ x. is_name x && list_all (λ c. not (c == 36)) x ≡ true) (ap (first_or []) h) (word_named t.use_.name.text.now (has_word t (top_in w src t (subst (λ xs. In xs t) (sym e) (inl refl)))))

  apart_texts : (ms : List Instance) → AllByRecursion (IsNode w src) ms → Apart Differ ms → Apart (λ m n. text m ≢ text n) ms
  apart_texts ms h a = apart-imp (IsNode w src) Differ (λ m n. text m ≢ text n) ms (λ m n x y d t. d (differ e m n clean words (in-to (nodes_of e) m x.node) (in-to (nodes_of e) n y.node) (x.under_ ∙ sym y.under_) t)) h a

  paths_of : (ms : List Instance) → AllByRecursion (IsNode w src) ms → AllByRecursion (λ n. is_path (text n) ≡ true) ms
  paths_of ms h = each-imp (IsNode w src) (λ n. is_path (text n) ≡ true) ms (λ n x. spelled e n clean words (in-to (nodes_of e) n x.node)) h

  pub reg_paths : IsTrue (distinct (map (λ r. r.path) b.regs) && list_all (λ r. is_path r.path) b.regs)
  reg_paths =
      let rs = registers (nodes_of e) in
      let nodes_ = each-imp (IsRegister w src) (IsNode w src) rs (λ r h. register_node w src r h) (all_registers w src) in
      let texts : map (λ r. r.path) b.regs ≡ map text rs = ap (map (λ r. r.path)) is.regs ∙ map-map (λ r. r.path) reg_of rs in
      good_paths (λ r. r.path) b.regs text rs texts (apart_texts rs nodes_ (registers_apart w src)) (paths_of rs nodes_)

  pub view_paths : IsTrue (distinct (map (λ v. v.path) b.views) && list_all (λ v. is_path v.path) b.views)
  view_paths =
      let rs = registers (nodes_of e) in
      let nodes_ = fields_nodes w src rs (all_registers w src) (registers_apart w src) in
      let apart = fields_apart w src rs (all_registers w src) (registers_apart w src) in
      let texts : map (λ v. v.path) b.views ≡ map text (flat_map fields_of rs) = ap (map (λ v. v.path)) is.views_ ∙ view_texts w src in
      good_paths (λ v. v.path) b.views text (flat_map fields_of rs) texts (apart_texts (flat_map fields_of rs) nodes_ apart) (paths_of (flat_map fields_of rs) nodes_)

  pub field_paths : IsTrue (distinct (map (λ f. f.path) b.fields) && list_all (λ f. is_path f.path) b.fields)
  field_paths =
      let rs = primaries (nodes_of e) in
      let mine = each-filter (IsRegister w src) (λ r. not (is_alias r)) (registers (nodes_of e)) (all_registers w src) in
      let own_apart = apart-filter Differ (λ r. not (is_alias r)) (registers (nodes_of e)) (registers_apart w src) in
      let nodes_ = fields_nodes w src rs mine own_apart in
      let apart = fields_apart w src rs mine own_apart in
      let texts : map (λ f. f.path) b.fields ≡ map text (flat_map fields_of rs) = ap (map (λ f. f.path)) is.fields_ ∙ field_texts w src in
      good_paths (λ f. f.path) b.fields text (flat_map fields_of rs) texts (apart_texts (flat_map fields_of rs) nodes_ apart) (paths_of (flat_map fields_of rs) nodes_)

  -- Signals.

  abbrev ss : List Instance
  ss = all_signals (nodes_of e)

  signals_in : AllByRecursion (In (nodes_of e)) ss
  signals_in = each-filter (In (nodes_of e)) (is_a kind.Signal) (nodes_of e) (nodes-in w src)

  abbrev name_of : Instance → List ℕ
  name_of n = signal_name (signal_of n)

  abbrev first_byte : List ℕ → ℕ
  first_byte [] = 0
  first_byte (c ∷ cs) = c

  one_name : (m n : Instance) → In (nodes_of e) m → In (nodes_of e) n → name_of m ≡ name_of n → m.path ≡ n.path
  one_name m n i j q = go (is_at_root m.path) (is_at_root n.path) refl refl
    where
      go : (x y : Bool) → is_at_root m.path ≡ x → is_at_root n.path ≡ y → m.path ≡ n.path
      go true true p r = differ e m n clean words (in-to (nodes_of e) m i) (in-to (nodes_of e) n j) (p ∙ sym r) (append_cancel_left (codes "global$") (text m) (text n) (sym (ap (λ t. (if t then codes "global$" else codes "signal$") ++ text m) p) ∙ q ∙ ap (λ t. (if t then codes "global$" else codes "signal$") ++ text n) r))
      go false false p r = differ e m n clean words (in-to (nodes_of e) m i) (in-to (nodes_of e) n j) (p ∙ sym r) (append_cancel_left (codes "signal$") (text m) (text n) (sym (ap (λ t. (if t then codes "global$" else codes "signal$") ++ text m) p) ∙ q ∙ ap (λ t. (if t then codes "global$" else codes "signal$") ++ text n) r))
      go true false p r = let no : 103 ≡ 115 = ap first_byte (sym (ap (λ t. (if t then codes "global$" else codes "signal$") ++ text m) p) ∙ q ∙ ap (λ t. (if t then codes "global$" else codes "signal$") ++ text n) r) in absurd (omega (arith, no))
      go false true p r = let no : 115 ≡ 103 = ap first_byte (sym (ap (λ t. (if t then codes "global$" else codes "signal$") ++ text m) p) ∙ q ∙ ap (λ t. (if t then codes "global$" else codes "signal$") ++ text n) r) in absurd (omega (arith, no))

  pub signal_paths : IsTrue (distinct (map signal_name b.signals))
  signal_paths =
      ap (λ xs. distinct (map signal_name xs)) is.signals
      ∙ ap distinct (map-map signal_name signal_of ss)
      ∙ distinct_by name_of ss (apart-imp (In (nodes_of e)) Differ (λ m n. name_of m ≢ name_of n) ss (λ m n i j d q. d (one_name m n i j q)) signals_in (apart-filter Differ (is_a kind.Signal) (nodes_of e) (nodes_apart w src)))

  signal_width : IsSettled e → (n : Instance) → In (nodes_of e) n → is_a kind.Signal n ≡ true → bad_width n ≡ false
  signal_width h n i k = when-empty (bad_width n) (at_ rules.P11 n.use_.name.place) (sym (of-signal n (the_signal (kind_of n) k)) ∙ settled-node e h n i)
    where
      when-empty : (t : Bool) (f : Fault) → when t f ≡ [] → t ≡ false
      when-empty true f q = cc
      when-empty false f q = refl

      of-signal : (n : Instance) → kind_of n ≡ kind.Signal → of_node n ≡ when (bad_width n) (at_ rules.P11 n.use_.name.place)
      of-signal n q = rw q refl

  pub signals_sound : IsSettled e → Each (λ s. (0 < s.width) × (s.width ≤ 64) × IsTrue (is_path s.path)) b.signals
  signals_sound h = subst (Each (λ s. (0 < s.width) × (s.width ≤ 64) × IsTrue (is_path s.path))) (sym is.signals) (all ss signals_in (passed (is_a kind.Signal) (nodes_of e)))
    where
      all : (ms : List Instance) → AllByRecursion (In (nodes_of e)) ms → AllByRecursion (λ m. is_a kind.Signal m ≡ true) ms → Each (λ s. (0 < s.width) × (s.width ≤ 64) × IsTrue (is_path s.path)) (map signal_of ms)
      all [] i k = tt
      all (m ∷ ms) i k = let width = wide m (signal_width h m i.0 k.0) in ((width.0, width.1, spelled e m clean words (in-to (nodes_of e) m i.0)), all ms i.1 k.1)
