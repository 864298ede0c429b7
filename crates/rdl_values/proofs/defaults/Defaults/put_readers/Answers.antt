use Rattle.std.proofs.Common.{◌≡◌, ◌∙◌, ℕ, Option, true, ◌&&◌, ◌||◌, List, arith, length, ap, nat_lt, option_and_then, slice_get, sym}
use Rattle.rdl_values.specs.Changed.{is_changed}
use Rattle.rdl_values.specs.Overlaid.{plain_of}
use Rattle.rdl_values.specs.Places.{has_place}
use Rattle.rdl_values.specs.Readers.{is_reader}
use Rattle.rdl_values.specs.Seen.{val_of}
use Rattle.rdl_values.specs.Values.{Val}
use Rattle.rdl_values.proofs.Keeping.{size-of}
use Rattle.rdl_values.proofs.ReadBy.{within_list}
use Rattle.rdl_values.proofs.defaults.Defaults.put_readers.Goals as goal

pub returns-in_ok-put_into : goal.returns-in_ok-put_into
returns-in_ok-put_into c = λ ps h k.
    let d = c.args.self.now in
    let place = c.args.place in
    let v = val_of c.args.value.now in
    let due = has_place c.args.due.now k in
    let here : c.len.result ≡ length d.entries.items = omega (arith, c.len.ensures, d.entries.ok.0) in
    let changed : is_changed (option_and_then (λ (x : List ℕ × Option Val). x.1) (slice_get (plain_of ps) place)) v ≡ true = ap (λ o. is_changed o v) (sym (c.value.ensures (plain_of ps) h.0)) ∙ sym c.is_changed.ensures ∙ c.if-is_changed.true in
    c.in_ok-put_into.ensures k ∙ ap (λ b. (nat_lt k c.len.result && b) || due) (h.1 place k) ∙ ap (λ b. b || due) (within_list ps place k c.len.result (here ∙ size-of d ps h.0)) ∙ ap (λ b. (b && is_reader ps place k) || due) (sym changed)
