-- What is kept at the end of a text is its table, or tells the first variable without a value.
use Rattle.std.specs.List.{last_or}
use Rattle.std.specs.Prelude.{slice_get}
use Rattle.plain_lemmas.proofs.Lists.{get-within}
use Rattle.std.proofs.Common.{◌≡◌, ℕ, suc, ◌-◌, ◌*◌, ◌<◌, ◌≤◌, Option, Some, None, List, [], ◌∷◌, length, map, refl, ap, sym, ◌∙◌, subst, arith}
use Rattle.rb_base.specs.declared.ports.Pin.{Pin}
use Rattle.stim_csv.specs.Vectors.{cut}
use Rattle.vcd_syntax.specs.Tokens.{Token}
use Rattle.vcd_syntax.specs.Meaning.{Event, times, last_given, before_time, events, names, pins, pins_by, values_at, AreRows}
use Rattle.vcd_syntax.specs.Reading.{IsTable, Lacks}
use Rattle.std.proofs.lemmas.List.{length-map}
use Rattle.vcd_syntax.specs.declared.state.State.{State}
use Rattle.vcd_syntax.specs.declared.state.State.TheVariants as state
use Rattle.vcd_syntax.specs.Known.{Known}
use Rattle.vcd_syntax.specs.Reads.{Knows, Reads}
use Rattle.vcd_syntax.proofs.Saying.{before_time-all, rows_all, rows_none}
use Rattle.vcd_syntax.proofs.Steps.{at_end}
use Rattle.vcd_reader.specs.declared.rows.Rows.{Rows}
use Rattle.vcd_reader.specs.declared.variables.Variables.{Variables}
use Rattle.vcd_reader.specs.Rows.{ClosesAt, Closes, IsAdded}
use Rattle.vcd_reader.specs.Steps.{known_row, ended_rows, AreEnded, IsFirstNone, AreKept, HoldsVariables, HoldsRows}
use Rattle.vcd_reader.proofs.Within.{few_codes}
use Rattle.stim_csv.proofs.Cutting.{length-cut}
use Rattle.vcd_reader.proofs.Keeping.{none_last, some_last, not_ended, more_rows, row_length}

-- the rows of a text of these marks, as they are kept
pub record AreAll (ms : List Token) (k : Known) (r : Rows) : Type 0 where
  pub rows : AreRows ms (cut (length k.codes) r.times r.values)
  pub whole : length r.values ≡ r.times * length k.codes

no_rows : (w : ℕ) (values : List ℕ) → cut w 0 values ≡ []
unfolding cut
no_rows w values = refl

all_none : (ms : List Token) (k : Known) (r : Rows) → Knows ms k → times k.events ≡ [] → r.times ≡ length (times k.events) → AreEnded k.codes k.events r.values → AreAll ms k r
all_none ms k r g e n h =
    let zero_is : r.times ≡ 0 = n ∙ ap length e in
    let empty : length r.values ≡ 0 * length k.codes = h.whole ∙ ap (λ z. (length z - 1) * length k.codes) e in
    record {
      rows = subst (AreRows ms) (sym (ap (λ z. cut (length k.codes) z r.values) zero_is ∙ no_rows (length k.codes) r.values)) (rows_none ms k g e);
      whole = empty ∙ ap (λ z. z * length k.codes) (sym zero_is);
    }

all_some : (ms : List Token) (k : Known) (old new : Rows) → Knows ms k → 0 < length (times k.events) → new.times ≡ length (times k.events) → AreEnded k.codes k.events old.values
    → IsAdded old.values new.values (map (last_given k.events) k.codes) None → AreAll ms k new
all_some ms k old new g some n h a =
    let row = a.0 in
    let m = more_rows k.codes k.events old.values row new.times some (row_length row k.events k.codes a.2) h.whole n in
    let all = rows_all ms k (ended_rows k.codes k.events old.values) row g some a.2 (record { count = length-cut (length k.codes) (length (times k.events) - 1) old.values; each = h.each }) in
    record {
      rows = subst (AreRows ms) (sym m.0 ∙ ap (cut (length k.codes) new.times) (sym a.1)) all;
      whole = ap length a.1 ∙ m.1;
    }

close_all : (ms : List Token) (k : Known) (last missing : Option ℕ) (old new : Rows) → Knows ms k → last ≡ last_or None (times k.events) → missing ≡ old.missing → old.times ≡ length (times k.events) → AreKept k.codes k.events missing old.values
    → ClosesAt last missing old new (map (last_given k.events) k.codes) → new.missing ≡ None → AreAll ms k new
close_all ms k None None old new g l m n h c e = subst (AreAll ms k) (sym c) (all_none ms k old g (none_last (times k.events) (sym l)) n h)
close_all ms k None (Some i) old new g l m n h c e = absurd (omega (arith, h.0, ap length (none_last (times k.events) (sym l))))
close_all ms k (Some t) (Some i) old new g l m n h c e = let both : Some i ≡ None = m ∙ (ap (λ r. r.missing) (sym c) ∙ e) in cc
close_all ms k (Some t) None old new g l m n h c e = all_some ms k old new g (some_last (times k.events) t (sym l)) (c.1 ∙ n) h (subst (IsAdded old.values new.values (map (last_given k.events) k.codes)) e c.2)

-- Rows without a variable that lacks a value are those of the text.
pub closed_rows : (ms : List Token) (v : Variables) (k : Known) (old new : Rows) → Knows ms k → HoldsVariables v k → HoldsRows old k → Closes old new v.now → new.missing ≡ None → AreAll ms k new
closed_rows ms v k old new g p h c e = close_all ms k old.last old.missing old new g h.last refl h.times h.kept (subst (ClosesAt old.last old.missing old new) p.now c) e

first_row : (cs : List (List ℕ)) (es : List Event) → length (times es) ≤ 1 → map (last_given es) cs ≡ known_row cs es 0
first_row cs es l = ap (λ z. map (last_given z) cs) (sym (before_time-all 1 es l))

close_missing : (k : Known) (last missing : Option ℕ) (old new : Rows) (i : ℕ) → last ≡ last_or None (times k.events) → missing ≡ old.missing → AreKept k.codes k.events missing old.values
    → ClosesAt last missing old new (map (last_given k.events) k.codes) → new.missing ≡ Some i → (0 < length (times k.events)) × IsFirstNone (known_row k.codes k.events 0) i
close_missing k None None old new i l m h c e = let both : None ≡ Some i = m ∙ (ap (λ r. r.missing) (sym c) ∙ e) in cc
close_missing k None (Some j) old new i l m h c e = absurd (omega (arith, h.0, ap length (none_last (times k.events) (sym l))))
close_missing k (Some t) (Some j) old new i l m h c e = let same : j ≡ i = (let both : Some j ≡ Some i = m ∙ (ap (λ r. r.missing) (sym c) ∙ e) in cc) in (omega (arith, h.0), subst (IsFirstNone (known_row k.codes k.events 0)) same h.1)
close_missing k (Some t) None old new i l m h c e =
    let a : IsAdded old.values new.values (map (last_given k.events) k.codes) (Some i) = subst (IsAdded old.values new.values (map (last_given k.events) k.codes)) e c.2 in
    let row = first_row k.codes k.events (not_ended k.codes k.events old.values i h a.0) in
    (some_last (times k.events) t (sym l), record { none = ap (λ z. slice_get z i) (sym row) ∙ a.0; before = λ j b f. a.1 j b (ap (λ z. slice_get z j) row ∙ f) })

-- The first variable without a value is told.
pub closed_missing : (v : Variables) (k : Known) (old new : Rows) (i : ℕ) → HoldsVariables v k → HoldsRows old k → Closes old new v.now → new.missing ≡ Some i → (0 < length (times k.events)) × IsFirstNone (known_row k.codes k.events 0) i
closed_missing v k old new i p h c e = close_missing k old.last old.missing old new i h.last refl h.kept (subst (ClosesAt old.last old.missing old new) p.now c) e

-- The answers.

same_pins : (ms : List Token) (v : Variables) (k : Known) → Knows ms k → HoldsVariables v k → pins_by v.names v.widths.items ≡ pins ms
same_pins ms v k g h = ap (λ z. pins_by z v.widths.items) (h.names ∙ sym g.names) ∙ ap (pins_by (names ms)) (h.widths ∙ sym g.widths)

pub count_pins : (ns : List (List ℕ)) (ws : List ℕ) → length ns ≡ length ws → length (pins_by ns ws) ≡ length ns
count_pins [] ws e = refl
count_pins (n ∷ ns) [] e = absurd (omega (arith, e))
count_pins (n ∷ ns) (w ∷ ws) e = ap suc (count_pins ns ws (omega (arith, e)))

pub table_is : (text : List ℕ) (v : Variables) (k : Known) (place : ℕ) (old new : Rows) (ps : List Pin) → Reads text [] state.Entries k place → HoldsVariables v k → HoldsRows old k → Closes old new v.now → new.missing ≡ None
    → ps ≡ pins_by v.names v.widths.items → (length new.values ≡ new.times * length ps) × IsTable text ps (cut (length ps) new.times new.values)
table_is text v k place old new ps r h p c e is =
    let all = closed_rows r.ms v k old new r.knows h p c e in
    let o = r.orderly in
    let ns : length v.names ≡ length v.widths.items = omega (arith, ap length h.names, ap length h.widths, o.widths, o.names) in
    let many : length ps ≡ length k.codes = omega (arith, ap length is, count_pins v.names v.widths.items ns, ap length h.names, o.names) in (
      all.whole ∙ ap (λ z. new.times * z) (sym many),
      record {
        ms = r.ms;
        sound = at_end text k place r;
        variables = is ∙ same_pins r.ms v k r.knows h;
        values = subst (λ z. AreRows r.ms (cut z new.times new.values)) (sym many) all.rows;
      },
    )

pub pin_within : (text : List ℕ) (v : Variables) (k : Known) (s : State) (place : ℕ) (old new : Rows) (i : ℕ) → Reads text [] s k place → HoldsVariables v k → HoldsRows old k → Closes old new v.now → new.missing ≡ Some i → i < length text
pin_within text v k s place old new i r h p c e =
    let m = closed_missing v k old new i h p c e in
    let below = get-within (known_row k.codes k.events 0) i None m.1.none in
    let few = few_codes text [] s k place r in
    omega (arith, below, few, length-map k.codes (last_given (before_time 1 k.events)))

pub lacks : (text : List ℕ) (v : Variables) (k : Known) (place : ℕ) (old new : Rows) (i : ℕ) → Reads text [] state.Entries k place → HoldsVariables v k → HoldsRows old k → Closes old new v.now → new.missing ≡ Some i → Lacks text i
lacks text v k place old new i r h p c e =
    let m = closed_missing v k old new i h p c e in
    let row : known_row k.codes k.events 0 ≡ values_at r.ms 0 = ap (λ z. map (last_given (before_time 1 z)) k.codes) (sym r.knows.events) ∙ ap (map (last_given (before_time 1 (events r.ms)))) (sym r.knows.codes) in
    record {
      ms = r.ms;
      sound = at_end text k place r;
      timed = subst (λ z. 0 < length (times z)) (sym r.knows.events) m.0;
      none = subst (λ z. slice_get z i ≡ Some None) row m.1.none;
      before = subst (λ z. (j : ℕ) → j < i → slice_get z j ≡ Some None → ⊥) row m.1.before;
    }
