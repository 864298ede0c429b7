use Rattle.std.proofs.Common.{◌≡◌, ◌∙◌, [], arith, length, subst, sym}
use Rattle.std.proofs.lemmas.Result.{on_ok_weaker}
use Rattle.rdl_values.specs.Kept.{AreDefaults}
use Rattle.rdl_values.specs.Overlaid.{overlaid, plain_entry, plain_of, plain_value}
use Rattle.rdl_values.specs.Reads.{IsAdded, IsLike}
use Rattle.rdl_values.specs.declared.defaults.Defaults.{Defaults}
use Rattle.rdl_values.proofs.Keeping.{defaults_more, none-by, size-of}
use Rattle.rdl_values.proofs.Plains.{plain-more}
use Rattle.rdl_values.proofs.ReadBy.{readers_more}
use Rattle.rdl_values.proofs.Reading.{default_like, like_more}
use Rattle.rdl_values.proofs.defaults.Defaults.read.Goals as goal

pub returns : goal.returns
returns c = on_ok_weaker c.add_if.result (λ added ps h like.
    let old = c.args.self.now in
    let p = c.args.param.now in
    let xs = plain_of ps in
    let o = plain_value (overlaid xs []) p in
    let new : Defaults = record { places = c.put.new.self; entries = c.push.new.self; needed = c.put_if.new.places; twice = c.first_of-self.result; readers = c.note_reads.new.readers } in
    let value = c.value_behind-value.ensures ∙ default_like c.args.shown.now (overlaid xs []) p like in
    let at : c.len-at.result ≡ length old.entries.items = omega (arith, c.len-at.ensures, old.entries.ok.0) in
    let kept = defaults_more old new xs p.name.text c.value_behind-value.result o c.len-at.result c.in_ok-again.again c.is_none.result h.0 at value
    c.in_ok-again.ensures.again c.in_ok-again.ensures.put c.first_of-self.ensures (none-by c.value_behind-value.result c.is_none.result c.is_none.ensures) c.in_ok-put_if.ensures c.in_ok-push.ensures.items in
    let more = sym (plain-more ps p) in
    let readers = readers_more old.places old.readers c.note_reads.new.readers ps p c.len-at.result h.1 h.0.places (at ∙ size-of old ps h.0) c.in_ok-note_reads.ensures in (
      (subst (AreDefaults new) more kept, readers),
      subst (λ ys. IsLike c.add_if.new.table (overlaid ys [])) more (like_more c.args.shown.now c.add_if.new.table xs p.name.text.now o like c.add_if.ensures.enums (subst (λ v. IsAdded p.name.text.now v c.args.shown.now.bound c.add_if.new.table.bound) value added)),
    )) c.add_if.ensures.added
