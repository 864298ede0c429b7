-- What the settings make of a field, its views and its register, apart from addresses.
use Rattle.std.proofs.Common.{◌≡◌, ℕ, ◌+◌, ◌-◌, Bool, false, not, ◌&&◌, ◌||◌, refl, ap, ◌∙◌, List, [], ◌∷◌, ◌++◌, map, flat_map, filter, Option, Some, None, option_map, option_to_list}
use Rattle.rdl_tree.specs.declared.expr.Expr.{Expr}
use Rattle.rdl_tree.specs.declared.expr.Name.{Name}
use Rattle.rdl_tree.specs.declared.item.Kind.{Kind}
use Rattle.rdl_tree.specs.declared.item.Kind.TheVariants as kind
use Rattle.rdl_verdict_laws.specs.Plain.{plain_name, plain_expr, plain_pair}
use Rattle.rdl_props.specs.declared.prop.Prop.{Prop}
use Rattle.rdl_props.specs.declared.prop.Prop.TheVariants as prop
use Rattle.rdl_values.specs.Bodies.{around, same_name}
use Rattle.rdl_values.specs.Faults.{when}
use Rattle.rdl_values.specs.Instances.{Instance, kind_of, children}
use Rattle.rdl_values.specs.Values.{Around, number_of}
use Rattle.rdl_verdict_laws.specs.PlainInstances.{plain_instance}
use Rattle.rdl_verdict_laws.proofs.Lists.{flat_id, flat_under, filter_under, any_same, list_of}
use Rattle.rdl_verdict_laws.proofs.Values.{number-plain}
use Rattle.rdl_verdict_laws.proofs.Bodies.{around-plain}
use Rattle.rdl_verdict_laws.proofs.Uses.{some-plain}
use Rattle.rdl_verdict_laws.proofs.Instances.{children-plain}
use Rattle.rdl_layers.specs.Fields.{is_a, fields_of, is_given, has, has_one_of, reads_word, writes_word, once_word, reads, writes, is_once, has_on_read, has_on_write, hardware_writes, hardware_reads, hardware_only_writes, is_alias, steps_up, is_alias_of, aliases, views, latches, is_touched, is_wire, is_storage, has_down, has_up}
use Rattle.rdl_layers.specs.Assignments.{same_steps}
use Rattle.rdl_layers.specs.Forms.{Meaning}
use Rattle.rdl_layers.specs.Phase4.{number_in, number_at, numbers_of, range_of, form_widths, width_prop, assigned_widths, first_or, width_of}
use Rattle.rdl_layers.specs.Settings.{given, setting}
use Rattle.rdl_verdict_laws.specs.PlainSettings.{plain_meaning}
use Rattle.rdl_verdict_laws.proofs.Meanings.{tested}
use Rattle.rdl_verdict_laws.proofs.Settings.{setting-plain, assigned-plain}

pub is_a-plain : (k : Kind) (n : Instance) → is_a k (plain_instance n) ≡ is_a k n
is_a-plain k n = refl

pub fields-plain : (r : Instance) → fields_of (plain_instance r) ≡ map plain_instance (fields_of r)
fields-plain r = ap (filter (is_a kind.Field)) (children-plain r) ∙ filter_under (is_a kind.Field) (is_a kind.Field) plain_instance (λ n. refl) (children r)

-- a test of a setting
pub tests : {A : Type 0} (f : Meaning → A) (same : (m : Meaning) → f (plain_meaning m) ≡ f m) (n : Instance) (p : Prop) → f (setting (plain_instance n) p) ≡ f (setting n p)
tests f same n p = ap f (setting-plain n p) ∙ same (setting n p)

pub has-plain : (p : Prop) (n : Instance) → has p (plain_instance n) ≡ has p n
has-plain p n = tests is_given (tested is_given (λ n s. refl) (λ p n s q. refl)) n p

pub one_of-plain : (ps : List Prop) (n : Instance) → has_one_of ps (plain_instance n) ≡ has_one_of ps n
one_of-plain [] n = refl
one_of-plain (p ∷ ps) n = λ i. has-plain p n i || one_of-plain ps n i

reads_word-plain : (m : Meaning) → reads_word (plain_meaning m) ≡ reads_word m
reads_word-plain = tested reads_word (λ n s. refl) (λ p n s q. refl)

writes_word-plain : (m : Meaning) → writes_word (plain_meaning m) ≡ writes_word m
writes_word-plain = tested writes_word (λ n s. refl) (λ p n s q. refl)

pub reads-plain : (n : Instance) → reads (plain_instance n) ≡ reads n
reads-plain n = tests reads_word reads_word-plain n prop.Sw

pub writes-plain : (n : Instance) → writes (plain_instance n) ≡ writes n
writes-plain n = tests writes_word writes_word-plain n prop.Sw

pub once-plain : (n : Instance) → is_once (plain_instance n) ≡ is_once n
once-plain n = tests once_word (tested once_word (λ n s. refl) (λ p n s q. refl)) n prop.Sw

pub on_read-plain : (n : Instance) → has_on_read (plain_instance n) ≡ has_on_read n
on_read-plain n = one_of-plain (prop.Onread ∷ prop.Rclr ∷ prop.Rset ∷ []) n

pub on_write-plain : (n : Instance) → has_on_write (plain_instance n) ≡ has_on_write n
on_write-plain n = one_of-plain (prop.Onwrite ∷ prop.Woset ∷ prop.Woclr ∷ []) n

pub hardware_writes-plain : (n : Instance) → hardware_writes (plain_instance n) ≡ hardware_writes n
hardware_writes-plain n = tests writes_word writes_word-plain n prop.Hw

pub hardware_reads-plain : (n : Instance) → hardware_reads (plain_instance n) ≡ hardware_reads n
hardware_reads-plain n = tests reads_word reads_word-plain n prop.Hw

only_writes-plain : (n : Instance) → hardware_only_writes (plain_instance n) ≡ hardware_only_writes n
only_writes-plain n = λ i. hardware_writes-plain n i && not (hardware_reads-plain n i)

pub alias-plain : (n : Instance) → is_alias (plain_instance n) ≡ is_alias n
alias-plain n = some-plain plain_name n.use_.alias

abbrev names : Name → Option Name → Bool
names m None = false
names m (Some n) = same_name n m

names-plain : (m : Name) (n : Option Name) → names (plain_name m) (option_map plain_name n) ≡ names m n
names-plain m None = refl
names-plain m (Some n) = refl

pub alias_of-plain : (r a : Instance) → is_alias_of (plain_instance r) (plain_instance a) ≡ is_alias_of r a
alias_of-plain r a = λ i. is_a kind.Reg a && names-plain r.use_.name a.use_.alias i && same_steps (steps_up r.path) (steps_up a.path)

pub aliases-plain : (all : List Instance) (r : Instance) → aliases (map plain_instance all) (plain_instance r) ≡ map plain_instance (aliases all r)
aliases-plain all r = filter_under (is_alias_of (plain_instance r)) (is_alias_of r) plain_instance (alias_of-plain r) all

pub views-plain : (all : List Instance) (r f : Instance) → views (map plain_instance all) (plain_instance r) (plain_instance f) ≡ map plain_instance (views all r f)
views-plain all r f =
    let p : Instance → Bool = λ g. same_name g.use_.name f.use_.name in
    let h : Instance → List Instance = λ a. filter p (fields_of a) in
    ap (λ xs. plain_instance f ∷ xs) (ap (flat_map h) (aliases-plain all r) ∙ flat_under h h plain_instance plain_instance (λ a. ap (filter p) (fields-plain a) ∙ filter_under p p plain_instance (λ g. refl) (fields_of a)) (aliases all r))

pub touched-plain : (vs : List Instance) → is_touched (map plain_instance vs) ≡ is_touched vs
touched-plain vs = any_same (λ v. writes v || has_on_read v) (λ v. writes v || has_on_read v) plain_instance (λ v i. writes-plain v i || on_read-plain v i) vs

latches-plain : (m : Meaning) → latches (plain_meaning m) ≡ latches m
latches-plain = tested latches (λ n s. refl) (λ p n s q. refl)

pub wire-plain : (vs : List Instance) (f : Instance) → is_wire (map plain_instance vs) (plain_instance f) ≡ is_wire vs f
wire-plain vs f = λ i.
    not (touched-plain vs i) && only_writes-plain f i
    && not (one_of-plain (prop.We ∷ prop.Wel ∷ prop.Counter ∷ prop.Hwset ∷ prop.Hwclr ∷ prop.Hwenable ∷ prop.Hwmask ∷ []) f i)
    && not (tests latches latches-plain f prop.Intr i)

pub storage-plain : (vs : List Instance) (f : Instance) → is_storage (map plain_instance vs) (plain_instance f) ≡ is_storage vs f
storage-plain vs f = λ i.
    touched-plain vs i || (hardware_writes-plain f i && not (wire-plain vs f i))
    || one_of-plain (prop.Counter ∷ prop.Hwset ∷ prop.Hwclr ∷ prop.Singlepulse ∷ []) f i

pub down-plain : (f : Instance) → has_down (plain_instance f) ≡ has_down f
down-plain f = one_of-plain (prop.Decr ∷ prop.Decrvalue ∷ prop.Decrwidth ∷ []) f

pub up-plain : (f : Instance) → has_up (plain_instance f) ≡ has_up f
up-plain f = λ i. one_of-plain (prop.Incr ∷ prop.Incrvalue ∷ prop.Incrwidth ∷ []) f i || not (down-plain f i)

-- Numbers and widths.

pub number_at-plain : (n : Instance) (p : Prop) → number_at (plain_instance n) p ≡ number_at n p
number_at-plain n p = tests number_in (tested number_in (λ n s. refl) (λ p n s q. refl)) n p

pub numbers-plain : (n : Instance) (es : List Expr) → numbers_of (plain_instance n) (map plain_expr es) ≡ numbers_of n es
numbers-plain n es =
    let f : Around → Expr → List ℕ = λ r e. given (number_of r e) in
    (λ i. flat_map (f (around-plain n.use_.scope i)) (map plain_expr es)) ∙ flat_id (f (around n.use_.scope)) plain_expr (λ e. ap given (number-plain (around n.use_.scope) e)) es

pub number_of_one-plain : (n : Instance) (e : Option Expr) → numbers_of (plain_instance n) (option_to_list (option_map plain_expr e)) ≡ numbers_of n (option_to_list e)
number_of_one-plain n e = ap (numbers_of (plain_instance n)) (list_of plain_expr e) ∙ numbers-plain n (option_to_list e)

abbrev two : List ℕ → List (ℕ × ℕ)
two (high ∷ low ∷ []) = (high, low) ∷ []
two _ = []

abbrev ends : Option (Expr × Expr) → List Expr
ends r = flat_map (λ (r : Expr × Expr). r.0 ∷ r.1 ∷ []) (option_to_list r)

ends-plain : (r : Option (Expr × Expr)) → ends (option_map plain_pair r) ≡ map plain_expr (ends r)
ends-plain None = refl
ends-plain (Some r) = refl

pub range-plain : (n : Instance) → range_of (plain_instance n) ≡ range_of n
range-plain n = ap two (ap (numbers_of (plain_instance n)) (ends-plain n.use_.form.range) ∙ numbers-plain n (ends n.use_.form.range))

pub form_widths-plain : (n : Instance) → form_widths (plain_instance n) ≡ form_widths n
form_widths-plain n = λ i. numbers-plain n n.use_.dims i ++ map (λ (r : ℕ × ℕ). r.0 + 1 - r.1) (range-plain n i)

pub assigned_widths-plain : (n : Instance) → assigned_widths (plain_instance n) ≡ assigned_widths n
assigned_widths-plain n = λ i. when (assigned-plain n (width_prop (kind_of n)) i) (number_at-plain n (width_prop (kind_of n)) i)

pub width-plain : (n : Instance) → width_of (plain_instance n) ≡ width_of n
width-plain n = λ i. first_or (form_widths-plain n i ++ assigned_widths-plain n i) 1
