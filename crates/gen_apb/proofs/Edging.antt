-- An edge of the netlist is one of the block's machine.
use Rattle.std.proofs.Common.{◌≡◌, ℕ, zero, suc, ◌==◌, Bool, true, false, not, ◌&&◌, if◌then◌else◌, Option, Some, None, unwrap_or, List, [], ◌∷◌, ◌++◌, codes, length, map, slice_get, refl, sym, ap, ◌∙◌, arith, inl, inr, ◌⊎◌, ◌+◌, eqb-true}
use Rattle.std.specs.Prelude.{Contains}
use Rattle.std.specs.List.{enumerate_from}
use Rattle.std.specs.Option.{option_map_or}
use Rattle.std.proofs.lemmas.List.Quantifiers.{position-Some}
use Rattle.std.proofs.lemmas.Option.{slice_get_within, get_or_from_slice_get}
use Rattle.plain_lemmas.proofs.Lists.{map-alike as all_mapped}
use Rattle.rtl_net.specs.Value.{At, bit_of}
use Rattle.rtl_net.specs.Net.{Net, Settles}
use Rattle.rtl_net.specs.declared.node.Id.{Id}
use Rattle.v_design.specs.Expr.{Values}
use Rattle.rb_model.specs.declared.block.Block.{Block}
use Rattle.rb_model.specs.declared.block.Field.{Field}
use Rattle.rb_model.specs.Items.{NoAccess, Read, Write, Now, ItemValues, AreItemValues}
use Rattle.rb_model.specs.Kept.{Kept, Map, Val, Last, Done, Waited, Data, Error, has_wait, is_kept, is_storage, kept, kept_of, keeps_last, of_field, only_kept, register_name, when, field_kept}
use Rattle.rb_model.specs.Machine.{held, is_asserted, outputs, read_data}
use Rattle.rb_model.specs.Ports.{outlets}
use Rattle.rb_model.specs.Protocol.{Bus, bus_of}
use Rattle.rb_model.specs.References.{Each}
use Rattle.rb_model.specs.Run.{all_outputs, carried, carries, closes, data_shown, error_shown, kept_next, now, ready, word_at}
use Rattle.rb_model.specs.Sound.{IsSound}
use Rattle.rb_model.proofs.Eachs.{Each-append, Each-at, Each-flat_map, Each-numbered_all}
use Rattle.rb_model.proofs.OwnViews.{by_cases}
use Rattle.block_plan.specs.Behind.{IsThere}
use Rattle.gen_scene.specs.declared.base.Inlet.{Inlet}
use Rattle.gen_scene.specs.Bases.{kept_number}
use Rattle.gen_scene.specs.Worth.{Finds, access_at}
use Rattle.gen_apb.specs.Bus.{Meets, cleared}
use Rattle.gen_apb.specs.Fronts.{IsClosing, ShowsData}
use Rattle.gen_apb.proofs.Naming.{contains_at, kept_of_fields, not_bus}
use Rattle.gen_apb.specs.Built.{IsBuilt}

-- Kept values

held_same : (b : Block) (p : Values) (m n : Map) (k : Kept) → m k ≡ n k → held b p m k ≡ held b p n k
held_same b p m n (Val k) e = ap (λ x. of_field b k x (λ f. if is_asserted b p f.reset_by && not f.reset_by.sync then unwrap_or f.reset x else x)) e
held_same b p m n (Last k) e = ap (λ x. of_field b k x (λ f. if is_asserted b p f.reset_by && not f.reset_by.sync then 0 else x)) e
held_same b p m n (Done k) e = ap (λ x. of_field b k x (λ f. if is_asserted b p f.reset_by && not f.reset_by.sync then 0 else x)) e
held_same b p m n Waited e = e
held_same b p m n Data e = e
held_same b p m n Error e = e

-- a kept value is of a field or of the bus
split_get : {X : Type 0} (xs ys : List X) (k : ℕ) (x : X) → slice_get (xs ++ ys) k ≡ Some x → ((i : ℕ) × (slice_get xs i ≡ Some x)) ⊎ ((i : ℕ) × (slice_get ys i ≡ Some x))
split_get [] ys k x e = inr (k, e)
split_get (y ∷ xs) ys zero x e = inl (0, e)
split_get (y ∷ xs) ys (suc k) x e = elim (split_get xs ys k x e) [
  | inl h ↦ inl (suc h.0, h.1)
  | inr h ↦ inr h
]

kept_is : (b : Block) (k : Kept) → Contains (kept b) k → is_kept b k ≡ true
kept_is b k c = Each-at (λ q. is_kept b q ≡ true) (kept b) c.0 k all (contains_at (kept b) k c)
  where
    when_each : (c : Bool) (q : Kept) → (c ≡ true → is_kept b q ≡ true) → Each (λ q. is_kept b q ≡ true) (when c q)
    when_each true q h = (h refl, tt)
    when_each false q h = tt

    of_one : (n : ℕ) (f : Field) → slice_get b.fields n ≡ Some f → Each (λ q. is_kept b q ≡ true) (kept_of (n, f))
    of_one n f e = Each-append (λ q. is_kept b q ≡ true) (when (is_storage f.class) (Val n) ++ when (keeps_last f.latch) (Last n)) (when f.once (Done n))
        (Each-append (λ q. is_kept b q ≡ true) (when (is_storage f.class) (Val n)) (when (keeps_last f.latch) (Last n))
        (when_each (is_storage f.class) (Val n) (λ t. ap (λ o. option_map_or (λ (g : Field). is_storage g.class) o false) e ∙ t))
        (when_each (keeps_last f.latch) (Last n) (λ t. ap (λ o. option_map_or (λ (g : Field). keeps_last g.latch) o false) e ∙ t)))
        (when_each f.once (Done n) (λ t. ap (λ o. option_map_or (λ (g : Field). g.once) o false) e ∙ t))

    of_bus : (c : Bool) → has_wait b ≡ c → Each (λ q. is_kept b q ≡ true) (if c then Waited ∷ Data ∷ Error ∷ [] else [])
    of_bus true e = (e, (e, (e, tt)))
    of_bus false e = tt

    all : Each (λ q. is_kept b q ≡ true) (kept b)
    all = Each-append (λ q. is_kept b q ≡ true) (field_kept b) (if has_wait b then Waited ∷ Data ∷ Error ∷ [] else [])
        (Each-flat_map (λ q. is_kept b q ≡ true) kept_of (enumerate_from 0 b.fields) (Each-numbered_all (λ e. Each (λ q. is_kept b q ≡ true) (kept_of e)) b.fields of_one))
        (of_bus (has_wait b) refl)

bus_number : (c : Bool) → Each (λ q. (c ≡ true) × (kept_number q ≡ None)) (if c then Waited ∷ Data ∷ Error ∷ [] else [])
bus_number true = ((refl, refl), ((refl, refl), ((refl, refl), tt)))
bus_number false = tt

kept_side : (b : Block) (k : Kept) → Contains (kept b) k → (Contains (field_kept b) k) ⊎ ((has_wait b ≡ true) × (kept_number k ≡ None))
kept_side b k c = elim (split_get (field_kept b) (if has_wait b then Waited ∷ Data ∷ Error ∷ [] else []) c.0 k (contains_at (kept b) k c)) [
  | inl h ↦ inl (h.0, slice_get_within (field_kept b) h.0 k h.1, get_or_from_slice_get (field_kept b) h.0 k k h.1)
  | inr h ↦ inr (Each-at (λ q. (has_wait b ≡ true) × (kept_number q ≡ None)) (if has_wait b then Waited ∷ Data ∷ Error ∷ [] else []) h.0 k (bus_number (has_wait b)) h.1)
]

pub bus_kept : (b : Block) → has_wait b ≡ true → Contains (kept b) Waited × Contains (kept b) Data × Contains (kept b) Error
bus_kept b w =
    (place 0 Waited refl, place 1 Data refl, place 2 Error refl)
  where
    at_end : {X : Type 0} (xs ys : List X) (k : ℕ) (x : X) → slice_get ys k ≡ Some x → slice_get (xs ++ ys) (length xs + k) ≡ Some x
    at_end [] ys k x e = let z : 0 + k ≡ k = omega arith in ap (slice_get ys) z ∙ e
    at_end (y ∷ xs) ys k x e = let z : suc (length xs) + k ≡ suc (length xs + k) = omega arith in ap (slice_get (y ∷ xs ++ ys)) z ∙ at_end xs ys k x e

    place : (k : ℕ) (q : Kept) → slice_get (Waited ∷ Data ∷ Error ∷ []) k ≡ Some q → Contains (kept b) q
    place k q e =
        let here : slice_get (if has_wait b then Waited ∷ Data ∷ Error ∷ [] else []) k ≡ Some q = ap (λ c. slice_get (if c then Waited ∷ Data ∷ Error ∷ [] else []) k) w ∙ e in
        let there = at_end (field_kept b) (if has_wait b then Waited ∷ Data ∷ Error ∷ [] else []) k q here in
        (length (field_kept b) + k, slice_get_within (kept b) (length (field_kept b) + k) q there, get_or_from_slice_get (kept b) (length (field_kept b) + k) q q there)

-- Accesses

there_from : (b : Block) (c : Bool) (p : Bus) → IsThere b (if c then carried b p else NoAccess)
there_from b false p = tt
there_from b true p = by (p.write == 0) (word_at b.reads p.address) (word_at b.writes p.address) refl refl
  where
    by : (z : Bool) (o q : Option ℕ) → word_at b.reads p.address ≡ o → word_at b.writes p.address ≡ q → IsThere b (if z then option_map_or Read o NoAccess else option_map_or (λ i. Write i p.data_in) q NoAccess)
    by true None q e f = tt
    by true (Some i) q e f = (position-Some (λ w. p.address == w.address) b.reads i (record { address = 0; width = 0; reg = 0; number = 0; slots = [] }) e).0
    by false o None e f = tt
    by false o (Some i) e f = (position-Some (λ w. p.address == w.address) b.writes i (record { address = 0; width = 0; reg = 0; number = 0; slots = [] }) f).0

-- One edge

-- the registers contain the values of the map
abbrev pub Holds : Block → Map → Values → Type 0
Holds b m contents = (k : Kept) → Contains (kept b) k → contents (register_name b k) ≡ m k

-- nothing is selected under PRESETn
abbrev pub IsQuiet : Bus → Type 0
IsQuiet p = p.resetn ≡ 0 → p.select ≡ 0

row : (a b c : ℕ) (x y z : ℕ) (xs ys : List ℕ) → a ≡ x → b ≡ y → c ≡ z → xs ≡ ys → a ∷ b ∷ c ∷ xs ≡ x ∷ y ∷ z ∷ ys
row a b c x y z xs ys e f g h = cc

module _ (b : Block) (sound : IsSound b) (net : Net) (built : IsBuilt b net) (v : At) (settles : Settles net v) (m : Map) (holds : Holds b m v.kept) (quiet : IsQuiet (bus_of v.ins)) where
  abbrev here : Now
  here = now b v.ins m

  abbrev a : Inlet
  a = built.front.inlet

  meets_one : (k : Kept) (name : List ℕ) → has_wait b ≡ true → register_name b k ≡ name → Contains (kept b) k → (if v.ins (codes "PRESETn") == 0 then 0 else m k) ≡ cleared name v
  meets_one k name w e c = ap (λ x. if v.ins (codes "PRESETn") == 0 then 0 else x) (sym (holds k c) ∙ ap v.kept e)

  meets : Meets b v here.kept
  meets = record {
    quiet = quiet;
    waited = λ w. meets_one Waited (codes "apb$wait") w refl (bus_kept b w).0;
    answered = λ w. meets_one Data (codes "apb$data") w refl (bus_kept b w).1;
    error = λ w. meets_one Error (codes "apb$error") w refl (bus_kept b w).2;
  }

  access_is : here.access ≡ access_at a v
  access_is = sym (built.is_front.says.access v settles here.kept meets)

  kept_found : (k : Kept) → Contains (field_kept b) k → here.kept k ≡ held b v.ins (λ j. v.kept (register_name b j)) k
  kept_found (Val k) c = held_same b v.ins m (λ j. v.kept (register_name b j)) (Val k) (sym (holds (Val k) (kept_of_fields b (Val k) c)))
  kept_found (Last k) c = held_same b v.ins m (λ j. v.kept (register_name b j)) (Last k) (sym (holds (Last k) (kept_of_fields b (Last k) c)))
  kept_found (Done k) c = held_same b v.ins m (λ j. v.kept (register_name b j)) (Done k) (sym (holds (Done k) (kept_of_fields b (Done k) c)))
  kept_found Waited c = absurd (not_bus b Waited c refl)
  kept_found Data c = absurd (not_bus b Data c refl)
  kept_found Error c = absurd (not_bus b Error c refl)

  finds : Finds b a v here
  finds = record {
    access = access_is;
    there = there_from b (carries b (bus_of v.ins) here.kept) (bus_of v.ins);
    pins = λ p c d. refl;
    kept = kept_found;
  }

  module _ (items : ItemValues) (valued : AreItemValues b here items) where
    ready_is : v.outs (codes "PREADY") ≡ ready b here
    ready_is = built.is_shown.ready_shown v settles ∙ built.is_front.ready.value v settles here.kept meets

    error_is : v.outs (codes "PSLVERR") ≡ error_shown b here
    error_is = built.is_shown.error_shown v settles ∙ built.is_front.error.value v settles here.kept meets

    answer_is : v.node built.answer.0 ≡ read_data b items here.access
    answer_is = built.is_core.answered.value v settles here finds items valued

    one_is : (c : Bool) → (bit_of c == 1) ≡ c
    one_is true = refl
    one_is false = refl

    data_by : (o : Option Id) → IsClosing b net o → ShowsData net o built.answer built.shown → v.node built.shown.0 ≡ data_shown b here items
    data_by None w e = ap (λ (i : Id). v.node i.0) e ∙ answer_is ∙ ap (λ c. if c then (if closes b (bus_of v.ins) here.kept then here.kept Data else 0) else read_data b items here.access) (sym w)
    data_by (Some id) w e =
        let shut : (v.node id.0 == 1) ≡ closes b (bus_of v.ins) here.kept = ap (λ k. k == 1) (w.1.value v settles here.kept meets) ∙ one_is (closes b (bus_of v.ins) here.kept) in
        e.1 v settles ∙ ap (λ c. if c then cleared (codes "apb$data") v else 0) shut ∙ ap (λ x. if closes b (bus_of v.ins) here.kept then x else 0) (sym (meets.answered w.0))
        ∙ ap (λ c. if c then (if closes b (bus_of v.ins) here.kept then here.kept Data else 0) else read_data b items here.access) (sym w.0)

    data_is : v.outs (codes "PRDATA") ≡ data_shown b here items
    data_is = built.is_shown.data_shown v settles ∙ data_by built.front.closes built.is_front.closing built.is_data

    pub outs_are : v.outs (codes "PREADY") ∷ v.outs (codes "PRDATA") ∷ v.outs (codes "PSLVERR") ∷ map (λ o. v.outs o.name) (outlets b) ≡ all_outputs b here items
    outs_are = row (v.outs (codes "PREADY")) (v.outs (codes "PRDATA")) (v.outs (codes "PSLVERR")) (ready b here) (data_shown b here items) (error_shown b here) (map (λ o. v.outs o.name) (outlets b)) (outputs b items)
        ready_is data_is error_is (all_mapped (λ o. v.outs o.name) (λ o. items o.item) (outlets b) (λ o c. built.is_core.shown v settles here finds items valued o c))

    -- with a wait state, what the bus keeps
    data_kept : (o : Option Id) → has_wait b ≡ true → IsClosing b net o → ShowsData net o built.answer built.shown → v.after (codes "apb$data") ≡ kept_next b here items Data
    data_kept None w closing e = absurd (let z : true ≡ false = sym w ∙ closing in cc)
    data_kept (Some id) w closing e = e.2 v settles ∙ ap (λ x. if v.ins (codes "PRESETn") == 0 then 0 else x) answer_is ∙ cleared_answer
      where
        none_read : (c : Bool) → c ≡ false → read_data b items (if c then carried b (bus_of v.ins) else NoAccess) ≡ 0
        none_read true e = cc
        none_read false e = refl

        cleared_answer : (if v.ins (codes "PRESETn") == 0 then 0 else read_data b items here.access) ≡ read_data b items here.access
        cleared_answer = by_cases (v.ins (codes "PRESETn") == 0)
            (λ t. let z : v.ins (codes "PRESETn") ≡ 0 = eqb-true (v.ins (codes "PRESETn")) 0 t in
            let off : carries b (bus_of v.ins) here.kept ≡ false = ap (λ r. (r == 1 && v.ins (codes "PSEL") == 1 && v.ins (codes "PENABLE") == 1) && not (has_wait b && here.kept Waited == 1)) z in
            ap (λ c. if c then 0 else read_data b items here.access) t ∙ sym (none_read (carries b (bus_of v.ins) here.kept) off))
            (λ f. ap (λ c. if c then 0 else read_data b items here.access) f)

    after_is : (k : Kept) → Contains (kept b) k → (Contains (field_kept b) k) ⊎ ((has_wait b ≡ true) × (kept_number k ≡ None)) → v.after (register_name b k) ≡ kept_next b here items k
    after_is (Val k) c (inl f) = built.is_core.moved v settles here finds items valued (Val k) f
    after_is (Last k) c (inl f) = built.is_core.moved v settles here finds items valued (Last k) f
    after_is (Done k) c (inl f) = built.is_core.moved v settles here finds items valued (Done k) f
    after_is (Val k) c (inr w) = absurd (let z = w.1 in cc z)
    after_is (Last k) c (inr w) = absurd (let z = w.1 in cc z)
    after_is (Done k) c (inr w) = absurd (let z = w.1 in cc z)
    after_is Waited c (inl f) = absurd (not_bus b Waited f refl)
    after_is Data c (inl f) = absurd (not_bus b Data f refl)
    after_is Error c (inl f) = absurd (not_bus b Error f refl)
    after_is Waited c (inr w) = (built.is_front.keeps w.0).waited v settles here.kept meets
    after_is Data c (inr w) = data_kept built.front.closes w.0 built.is_front.closing built.is_data
    after_is Error c (inr w) = (built.is_front.keeps w.0).failed v settles here.kept meets

    pub held_after : (after : Map) → after ≡ only_kept b (kept_next b here items) → Holds b after v.after
    held_after after e k c =
        after_is k c (kept_side b k c) ∙ ap (λ x. if x then kept_next b here items k else 0) (sym (kept_is b k c)) ∙ sym (ap (λ (n : Map). n k) e)
