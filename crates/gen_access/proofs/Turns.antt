-- What slots and words in turn make of a table.
use Rattle.std.proofs.Common.{◌≡◌, ◌≢◌, ℕ, ◌+◌, ◌<◌, ◌≤◌, ◌==◌, nat_lt, Bool, true, false, ◌||◌, if◌then◌else◌, Option, Some, None, List, [], ◌∷◌, ◌++◌, length, fold, take, drop, slice_get, get_or, refl, sym, ap, ◌∙◌, subst, arith, get_or-set_other, get_or-set_same, length-set, inl, inr, ◌⊎◌}
use Rattle.std.proofs.Math.ListN.{set}
use Rattle.std.specs.List.{list_any}
use Rattle.std.specs.Option.{option_map_or}
use Rattle.std.proofs.lemmas.List.{take_at, take_more}
use Rattle.std.proofs.lemmas.Option.{same_Some, slice_get-get_or, slice_get_within}
use Rattle.plain_lemmas.proofs.Bools.{if-same as same_either, or-left as or_first, or-true_right as or_second}
use Rattle.plain_lemmas.proofs.Lists.{fold-push}
use Rattle.rtl_net.specs.Net.{Net, Grows, Stands}
use Rattle.rtl_net.specs.Ids.{at}
use Rattle.rtl_net.specs.declared.node.Id.{Id}
use Rattle.rtl_net.proofs.Nets.{Grows-trans, Grows-refl, Stands-grows}
use Rattle.rb_model.specs.declared.block.Block.{Block}
use Rattle.rb_model.specs.declared.block.Field.{Field}
use Rattle.rb_model.specs.declared.block.View.{View}
use Rattle.rb_model.specs.declared.block.Slot.{Slot}
use Rattle.rb_model.specs.declared.block.Word.{Word}
use Rattle.rb_model.specs.Items.{Access, Now, ItemValues, AreItemValues, slots_of}
use Rattle.rb_model.specs.Effects.{has_read_effect}
use Rattle.rb_model.specs.Sound.{IsSound, WordIsSound, SlotIsSound, view_passes}
use Rattle.rb_model.proofs.Eachs.{Each-at}
use Rattle.block_plan.specs.Behind.{IsThere}
use Rattle.gen_scene.specs.declared.base.Inlet.{Inlet}
use Rattle.gen_scene.specs.declared.scene.Scene.{Scene}
use Rattle.gen_scene.specs.Worth.{IsWorth}
use Rattle.gen_scene.proofs.Worths.{IsWorth-grows, IsBase-grows, HasView-grows}
use Rattle.rb_model.specs.References.{Each}
use Rattle.gen_access.specs.declared.software.Effect.{Effect}
use Rattle.gen_access.specs.declared.software.Effect.TheVariants as effect
use Rattle.gen_access.specs.Effects.{has_effect, ways_of, words_of}
use Rattle.gen_access.specs.declared.touched.Touch.{Touch}
use Rattle.gen_access.specs.declared.touched.Touch.TheVariants as touch
use Rattle.gen_access.specs.Touches.{touch_ways, touch_words, touches}
use Rattle.gen_access.specs.Tables.{AreNodes, AreWorth, Changes, HasViews, Step}
use Rattle.gen_access.specs.Words.{AreHitsOf, SlotFits, SlotStep, below, is_at, passes_some}
use Rattle.plain_lemmas.proofs.Numbers.{same_or_other}

pub HasViews-grows : (old new : Net) (s : Scene) → Grows old new → HasViews old s → HasViews new s
HasViews-grows old new s h v = record { base = IsBase-grows old new h s.base.now v.base; each = λ k u e. HasView-grows old new h s k u (v.each k u e) }

pub AreHitsOf-grows : (b : Block) (a : Inlet) (old new : Net) (words : List Word) (reached : Access → Option ℕ) (acts : View → Bool) (hits : List Id) → Grows old new → AreHitsOf b a old words reached acts hits → AreHitsOf b a new words reached acts hits
AreHitsOf-grows b a old new words reached acts hits h k = record {
  long = k.long;
  stand = λ j l. Stands-grows old new (at hits j) 1 h (k.stand j l);
  each = λ j w e t. IsWorth-grows b a old new (at hits j) 1 _ h (k.each j w e t);
}

-- a view that passes one test passes another
pub passes_more : (b : Block) (p q : View → Bool) → ((u : View) → p u ≡ true → q u ≡ true) → (slots : List Slot) → passes_some b p slots ≡ true → passes_some b q slots ≡ true
passes_more b p q f [] h = cc
passes_more b p q f (s ∷ ss) h = either (view_passes b p s) (list_any (view_passes b p) ss) (view_passes b q s) (list_any (view_passes b q) ss) (one (slice_get b.views s.view)) (passes_more b p q f ss) h
  where
    one : (o : Option View) → option_map_or p o false ≡ true → option_map_or q o false ≡ true
    one None h = cc
    one (Some u) h = f u h

    later : (c d : Bool) → d ≡ true → (c || d) ≡ true
    later true d h = refl
    later false d h = h

    either : (x y v w : Bool) → (x ≡ true → v ≡ true) → (y ≡ true → w ≡ true) → (x || y) ≡ true → (v || w) ≡ true
    either true y v w f g h = rw (f refl) refl
    either false y v w f g h = later v w (g h)

-- what has an effect does something
pub effect_acts : (e : Effect) (u : View) → has_effect e u ≡ true → ways_of e u ≡ true
effect_acts effect.Written u h = or_first u.writes u.once h
effect_acts effect.Read u h = or_second u.reads (has_read_effect u.on_read) h
effect_acts effect.Used u h = or_second u.writes u.once h

pub touch_acts : (t : Touch) (u : View) → touches t u ≡ true → touch_ways t u ≡ true
touch_acts touch.ReadsWithEffect u h = or_second u.reads (has_read_effect u.on_read) h
touch_acts touch.Reads u h = or_first u.reads (has_read_effect u.on_read) h
touch_acts touch.Writes u h = or_first u.writes u.once h

-- Tables

pub AreNodes-grows : (b : Block) (old new : Net) (ids : List Id) (width : Field → ℕ) → Grows old new → AreNodes b old ids width → AreNodes b new ids width
AreNodes-grows b old new ids width h t = record { long = t.long; each = λ k f e. Stands-grows old new (at ids k) (width f) h (t.each k f e) }

pub AreWorth-grows : (b : Block) (a : Inlet) (old new : Net) (ids : List Id) (width : Field → ℕ) (g : ℕ → Field → Now → ItemValues → ℕ) → Grows old new → AreWorth b a old ids width g → AreWorth b a new ids width g
AreWorth-grows b a old new ids width g h t = record { each = λ k f e. IsWorth-grows b a old new (at ids k) (width f) (g k f) h (t.each k f e) }

pub Changes-trans : (b : Block) (a : Inlet) (n0 n1 n2 : Net) (t0 t1 t2 : List Id) (width : Field → ℕ) (first second third : Step)
    → ((n : Now) (v : ItemValues) → IsThere b n.access → AreItemValues b n v → (k : ℕ) (f : Field) (x : ℕ) → second n v k f (first n v k f x) ≡ third n v k f x)
    → Changes b a n0 n1 t0 t1 width first → Changes b a n1 n2 t1 t2 width second → Changes b a n0 n2 t0 t2 width third
Changes-trans b a n0 n1 n2 t0 t1 t2 width first second third same p q = record {
  worth = λ g h. record {
    each = λ k f e.
        let r = (q.worth (λ k f n v. first n v k f (g k f n v)) (p.worth g h)).each k f e in
        record { stands = r.stands; value = λ x s n found items c. r.value x s n found items c ∙ same n items found.there c k f (g k f n items) };
  };
}

pub Changes-as : (b : Block) (a : Inlet) (n0 n1 : Net) (t0 t1 : List Id) (width : Field → ℕ) (first second : Step)
    → ((n : Now) (v : ItemValues) → IsThere b n.access → AreItemValues b n v → (k : ℕ) (f : Field) (x : ℕ) → first n v k f x ≡ second n v k f x)
    → Changes b a n0 n1 t0 t1 width first → Changes b a n0 n1 t0 t1 width second
Changes-as b a n0 n1 t0 t1 width first second same p = record {
  worth = λ g h. record {
    each = λ k f e.
        let r = (p.worth g h).each k f e in
        record { stands = r.stands; value = λ x s n found items c. r.value x s n found items c ∙ same n items found.there c k f (g k f n items) };
  };
}

pub Changes-none : (b : Block) (a : Inlet) (net : Net) (t : List Id) (width : Field → ℕ) (step : Step)
    → ((n : Now) (v : ItemValues) (k : ℕ) (f : Field) (x : ℕ) → step n v k f x ≡ x) → Changes b a net net t t width step
Changes-none b a net t width step same = record {
  worth = λ g h. record {
    each = λ k f e.
        let r = h.each k f e in
        record { stands = r.stands; value = λ x s n found items c. r.value x s n found items c ∙ sym (same n items k f (g k f n items)) };
  };
}

-- One field's node is another

module _ (b : Block) (old new : Net) (table : List Id) (place : ℕ) (f : Field) (id : Id) (width : Field → ℕ) (here : slice_get b.fields place ≡ Some f) (nodes : AreNodes b old table width) (h : Grows old new) where
  room : place < length table
  room = let l = slice_get_within b.fields place f here in omega (arith, nodes.long)

  there : at (set table place id) place ≡ id
  there = let r : place < length table = room in rw get_or-set_same refl

  pub nodes_set : Stands new id (width f) → AreNodes b new (set table place id) width
  nodes_set s = record {
    long = length-set table place id ∙ nodes.long;
    each = λ k g q. elim (same_or_other place k) [
      | inl e ↦
          let same : f ≡ g = same_Some f g (sym here ∙ (ap (slice_get b.fields) e.0 ∙ q)) in
          let mine : at (set table place id) k ≡ id = ap (at (set table place id)) (sym e.0) ∙ there in
          subst (λ x. Stands new x (width g)) (sym mine) (subst (λ x. Stands new id (width x)) same s)
      | inr e ↦
          let ne : k ≢ place = λ x. e.0 (sym x) in
          let other : at (set table place id) k ≡ at table k = rw get_or-set_other refl in
          subst (λ x. Stands new x (width g)) (sym other) (Stands-grows old new (at table k) (width g) h (nodes.each k g q))
    ];
  }

  pub changes_set : (a : Inlet) (step : Step) → ((g : Now → ItemValues → ℕ) → IsWorth b a old (at table place) (width f) g → IsWorth b a new id (width f) (λ n v. step n v place f (g n v)))
      → ((n : Now) (v : ItemValues) (k : ℕ) (e : Field) (x : ℕ) → k ≢ place → step n v k e x ≡ x) → Changes b a old new table (set table place id) width step
  changes_set a step mine_is rest = record {
    worth = λ g t. record {
      each = λ k e q. elim (same_or_other place k) [
        | inl p ↦
            let same : f ≡ e = same_Some f e (sym here ∙ (ap (slice_get b.fields) p.0 ∙ q)) in
            let mine : at (set table place id) k ≡ id = ap (at (set table place id)) (sym p.0) ∙ there in
            let r : IsWorth b a new id (width f) (λ n v. step n v place f (g place f n v)) = mine_is (g place f) (t.each place f here) in
            let P : Field → Type 0 = λ x. IsWorth b a new id (width x) (λ n v. step n v place x (g place x n v)) in
            let Q : ℕ → Type 0 = λ m. IsWorth b a new id (width e) (λ n v. step n v m e (g m e n v)) in
            subst (λ x. IsWorth b a new x (width e) (λ n v. step n v k e (g k e n v))) (sym mine) (subst Q p.0 (subst P same r))
        | inr p ↦
            let ne : k ≢ place = λ x. p.0 (sym x) in
            let other : at (set table place id) k ≡ at table k = rw get_or-set_other refl in
            let r = t.each k e q in
            subst (λ x. IsWorth b a new x (width e) (λ n v. step n v k e (g k e n v))) (sym other) (record {
              stands = Stands-grows old new (at table k) (width e) h r.stands;
              value = λ x s n found items c. r.value x (h.settles x s) n found items c ∙ sym (rest n items k e (g k e n items) ne);
            })
      ];
    };
  }

-- what a vector has after its elements were lent
pub lent : {X : Type 0} (n : ℕ) (new items : List X) → length new ≡ n → take n (new ++ drop (length new) items) ≡ new
lent n new items e = take_at new (drop (length new) items) n e

-- A loop over a table

pub record StepsTo (b : Block) (a : Inlet) (first net : Net) (start table : List Id) (width : Field → ℕ) (step : Step) : Type 0 where
  pub older : Grows first net
  pub name : net.name ≡ first.name
  pub nodes : AreNodes b net table width
  pub changes : Changes b a first net start table width step

pub steps_none : (b : Block) (a : Inlet) (net : Net) (t : List Id) (width : Field → ℕ) (step : Step) → AreNodes b net t width
    → ((n : Now) (v : ItemValues) (k : ℕ) (f : Field) (x : ℕ) → step n v k f x ≡ x) → StepsTo b a net net t t width step
steps_none b a net t width step nodes same = record { older = Grows-refl net; name = refl; nodes = nodes; changes = Changes-none b a net t width step same }

pub steps_more : (b : Block) (a : Inlet) (first net new : Net) (start table table' : List Id) (width : Field → ℕ) (done one more : Step)
    → ((n : Now) (v : ItemValues) → IsThere b n.access → AreItemValues b n v → (k : ℕ) (f : Field) (x : ℕ) → one n v k f (done n v k f x) ≡ more n v k f x)
    → StepsTo b a first net start table width done → Grows net new → new.name ≡ net.name → AreNodes b new table' width → Changes b a net new table table' width one
    → StepsTo b a first new start table' width more
steps_more b a first net new start table table' width done one more same to h e nodes changes = record {
  older = Grows-trans first net new to.older h;
  name = e ∙ to.name;
  nodes = nodes;
  changes = Changes-trans b a first net new start table table' width done one more same to.changes changes;
}

-- Slots of one word

abbrev pub slots_step : (Access → Option ℕ) → SlotStep → ℕ → List Slot → Step
slots_step reached each j slots n v k f x = if is_at j (reached n.access) then fold (each n v k f) x slots else x

twice : (c : Bool) (f : ℕ → ℕ) (x y z : ℕ) → f x ≡ z → (if c then f (if c then x else y) else (if c then x else y)) ≡ (if c then z else y)
twice true f x y z e = e
twice false f x y z e = refl

module _ (reached : Access → Option ℕ) (each : SlotStep) (j : ℕ) where
  pub slots_none : (slots : List Slot) (n : Now) (v : ItemValues) (k : ℕ) (f : Field) (x : ℕ) → slots_step reached each j (take 0 slots) n v k f x ≡ x
  slots_none slots n v k f x = same_either (is_at j (reached n.access)) x

  pub slots_more : (slots : List Slot) (end : ℕ) (d : Slot) → end < length slots → (n : Now) (v : ItemValues) (k : ℕ) (f : Field) (x : ℕ)
      → (if is_at j (reached n.access) then each n v k f (slots_step reached each j (take end slots) n v k f x) (get_or slots end d) else slots_step reached each j (take end slots) n v k f x)
      ≡ slots_step reached each j (take (end + 1) slots) n v k f x
  slots_more slots end d low n v k f x =
      twice (is_at j (reached n.access)) (λ y. each n v k f y (get_or slots end d)) (fold (each n v k f) x (take end slots)) x (fold (each n v k f) x (take (end + 1) slots))
      (sym (ap (fold (each n v k f) x) (take_more slots end d low) ∙ fold-push (each n v k f) x (take end slots) (get_or slots end d)))

-- Words in turn

module _ (words : List Word) (reached : Access → Option ℕ) (each : SlotStep) where
  pub below_none : (n : Now) (v : ItemValues) (k : ℕ) (f : Field) (x : ℕ) → below words reached each 0 n v k f x ≡ x
  below_none n v k f x = by (reached n.access)
    where
      by : (o : Option ℕ) → option_map_or (λ i. if nat_lt i 0 then fold (each n v k f) x (slots_of words i) else x) o x ≡ x
      by None = refl
      by (Some i) = let e : nat_lt i 0 ≡ false = grind arith in rw e refl

  pub below_more : (j : ℕ) (word : Word) → slice_get words j ≡ Some word → (n : Now) (v : ItemValues) (k : ℕ) (f : Field) (x : ℕ)
      → slots_step reached each j word.slots n v k f (below words reached each j n v k f x) ≡ below words reached each (j + 1) n v k f x
  below_more j word here n v k f x = by (reached n.access)
    where
      F : ℕ → List Slot → ℕ
      F y slots = fold (each n v k f) y slots

      at_place : (i : ℕ) → i ≡ j → slots_of words i ≡ word.slots
      at_place i e = ap (λ m. option_map_or (λ w. w.slots) (slice_get words m) []) e ∙ ap (λ o. option_map_or (λ w. w.slots) o []) here

      by : (o : Option ℕ) → (if is_at j o then fold (each n v k f) (option_map_or (λ i. if nat_lt i j then fold (each n v k f) x (slots_of words i) else x) o x) word.slots else option_map_or (λ i. if nat_lt i j then fold (each n v k f) x (slots_of words i) else x) o x)
          ≡ option_map_or (λ i. if nat_lt i (j + 1) then fold (each n v k f) x (slots_of words i) else x) o x
      by None = refl
      by (Some i) = cases (where_is i j)
        where
          where_is : (i j : ℕ) → ((i ≡ j) × ((i == j) ≡ true) × (nat_lt i j ≡ false) × (nat_lt i (j + 1) ≡ true)) ⊎ (((i == j) ≡ false) × (nat_lt i j ≡ nat_lt i (j + 1)))
          where_is i j = grind arith

          cases : ((i ≡ j) × ((i == j) ≡ true) × (nat_lt i j ≡ false) × (nat_lt i (j + 1) ≡ true)) ⊎ (((i == j) ≡ false) × (nat_lt i j ≡ nat_lt i (j + 1)))
              → (if i == j then fold (each n v k f) (if nat_lt i j then fold (each n v k f) x (slots_of words i) else x) word.slots else (if nat_lt i j then fold (each n v k f) x (slots_of words i) else x))
              ≡ (if nat_lt i (j + 1) then fold (each n v k f) x (slots_of words i) else x)
          cases (inl p) =
              ap (λ c. if c then fold (each n v k f) (if nat_lt i j then fold (each n v k f) x (slots_of words i) else x) word.slots else (if nat_lt i j then fold (each n v k f) x (slots_of words i) else x)) p.1
              ∙ ap (λ c. fold (each n v k f) (if c then fold (each n v k f) x (slots_of words i) else x) word.slots) p.2
              ∙ ap (fold (each n v k f) x) (sym (at_place i p.0))
              ∙ ap (λ c. if c then fold (each n v k f) x (slots_of words i) else x) (sym p.3)
          cases (inr p) =
              ap (λ c. if c then fold (each n v k f) (if nat_lt i j then fold (each n v k f) x (slots_of words i) else x) word.slots else (if nat_lt i j then fold (each n v k f) x (slots_of words i) else x)) p.0
              ∙ ap (λ c. if c then fold (each n v k f) x (slots_of words i) else x) p.1

-- a slot of a sound word
pub slot_fits : (b : Block) (word : Word) (slots : List Slot) (k : ℕ) (d : Slot) → WordIsSound b word → slots ≡ word.slots → k < length slots → SlotFits b (get_or slots k d)
slot_fits b word slots k d h same low =
    let s : SlotIsSound b word (get_or slots k d) = Each-at (SlotIsSound b word) word.slots k (get_or slots k d) h.slots (ap (λ ss. slice_get ss k) (sym same) ∙ slice_get-get_or slots k d low) in
    let wide : word.width ≤ 32 = narrow h.wide in
    record { view = s.view; field = s.field; of_view = s.of_view; of_field = s.of_field; some_bit = s.some_bit; in_word = omega (arith, s.in_word, wide); in_field = s.in_field; whole = s.whole }
  where
    narrow : (word.width ≡ 8) ⊎ (word.width ≡ 16) ⊎ (word.width ≡ 32) → word.width ≤ 32
    narrow (inl e) = omega (arith, e)
    narrow (inr (inl e)) = omega (arith, e)
    narrow (inr (inr e)) = omega (arith, e)

-- the field of a slot's view is there
pub field_there : (b : Block) (s : Slot) (u : View) → SlotFits b s → slice_get b.views s.view ≡ Some u → (f : Field) × (slice_get b.fields u.field ≡ Some f)
field_there b s u h here =
    let e : h.view ≡ u = same_Some h.view u (sym h.of_view ∙ here) in
    (h.field, ap (λ w. slice_get b.fields w.field) (sym e) ∙ h.of_field)

-- the words of an effect are sound
pub words_sound : (b : Block) (e : Effect) → IsSound b → Each (WordIsSound b) (words_of b e)
words_sound b effect.Written sound = sound.writes
words_sound b effect.Read sound = sound.reads
words_sound b effect.Used sound = sound.writes

pub touched_sound : (b : Block) (t : Touch) → IsSound b → Each (WordIsSound b) (touch_words b t)
touched_sound b touch.ReadsWithEffect sound = sound.reads
touched_sound b touch.Reads sound = sound.reads
touched_sound b touch.Writes sound = sound.writes
