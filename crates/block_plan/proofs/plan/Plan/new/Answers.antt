use Rattle.std.proofs.Common.{◌≡◌, ◌<◌, ◌∙◌, ap, codes, length, map, slice_get, sym, subst, arith}
use Rattle.std.proofs.lemmas.Option.{slice_get_within}
use Rattle.rb_model.specs.Ports.{input_pins, signal_name}
use Rattle.rb_model.specs.SoundField.{FieldIsSoundIn}
use Rattle.rb_model.proofs.Eachs.{Each-from_zero}
use Rattle.block_plan.specs.Plan.{AreBusPlaces, AreFieldPlaces, IsGatePlace, IsPlaceOf, members_among}
use Rattle.block_plan.specs.Kept.{AreKeptOf}
use Rattle.block_plan.proofs.plan.Plan.new.Goals as goal

pub members-requires : goal.members-requires
members-requires c k f here =
    let b = c.args.block.now in
    let fields : c.deref-5.result.now ≡ b.fields = c.deref-5.ensures.value ∙ ap (λ b. b.fields) c.block.view_is in
    let regs : c.deref-regs.result.now ≡ b.regs = c.deref-regs.ensures.value ∙ ap (λ b. b.regs) c.block.view_is in
    let sound : FieldIsSoundIn b (k, f) = Each-from_zero (FieldIsSoundIn b) b.fields k f c.requires.fields (ap (λ xs. slice_get xs k) (sym fields) ∙ here) in
    let (r, at, own) = sound.in_register in
    let low : f.reg < length b.regs = slice_get_within b.regs f.reg r at in
    omega (arith, low, ap length regs)

pub returns : goal.returns
returns c =
    let b = c.args.block.now in
    let eb : c.in_ok-places.places.block.now ≡ b = c.in_ok-places.ensures.block in
    let v = c.block.view_is in
    let signals : c.deref-2.result.now ≡ b.signals = c.deref-2.ensures.value ∙ ap (λ b. b.signals) v in
    let fields : c.deref-3.result.now ≡ b.fields = c.deref-3.ensures.value ∙ ap (λ b. b.fields) v in
    let views : c.deref-4.result.now ≡ b.views = c.deref-4.ensures.value ∙ ap (λ b. b.views) v in
    let fields' : c.deref-5.result.now ≡ b.fields = c.deref-5.ensures.value ∙ ap (λ b. b.fields) v in
    let reads : c.deref-6.result.now ≡ b.reads = c.deref-6.ensures.value ∙ ap (λ b. b.reads) v in
    let fields'' : c.deref-7.result.now ≡ b.fields = c.deref-7.ensures.value ∙ ap (λ b. b.fields) v in
    record {
      inputs = c.in_ok-places.ensures.places.end ∙ ap (λ b. length (input_pins b)) eb;
      bus = subst (λ b. AreBusPlaces b c.bus.result) eb c.bus.ensures;
      signals = λ k s here. let (place, at, is) = c.in_ok-signals.ensures k s (ap (λ xs. slice_get xs k) signals ∙ here) in (place, at, subst (λ b. IsPlaceOf b (signal_name s) place) eb is);
      fields = λ k f here. let (places, at, are) = c.in_ok-fields.ensures k f (ap (λ xs. slice_get xs k) fields ∙ here) in (places, at, subst (λ b. AreFieldPlaces b f places) eb are);
      gates = λ k w here. let (place, at, is) = c.in_ok-gates.ensures k w (ap (λ xs. slice_get xs k) views ∙ here) in (place, at, subst (λ b. IsGatePlace b w.gate (codes "swwe$") (codes "swwel$") w.path place) eb is);
      members = λ r. c.in_ok-members.ensures r ∙ ap (λ fs. members_among fs r) fields';
      outlets = c.in_ok-outlets.ensures;
      addresses = c.in_ok-addresses.ensures ∙ ap (map (λ w. w.address)) reads;
      kept = subst (λ fs. AreKeptOf fs c.in_ok-kept_values.field-0) fields'' c.in_ok-kept_values.ensures;
    }
