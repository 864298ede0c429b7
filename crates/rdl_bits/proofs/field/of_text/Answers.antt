use Rattle.std.proofs.Common.{◌≡◌, ◌∙◌, sym, ap, subst}
use Rattle.rdl_layers.specs.Phase4.{first_or}
use Rattle.rdl_addr.specs.Texts.{IsText}
use Rattle.rdl_bits.proofs.Fielded.{dims-are, range-is, set-is, width-is}
use Rattle.rdl_bits.proofs.field.of_text.Goals as goal

pub returns-clause-range : goal.returns-clause-range
returns-clause-range c = λ around n shown text inst.
    let one : text.0 ≡ c.args.inst.now = (let q = sym text.1 ∙ inst in cc q) in
    let is : IsText c.args.inst.now around n = subst (λ i. IsText i around n) one text.2 in
    c.range_given-range.ensures around shown ∙ sym (range-is c.args.inst.now around n is)

pub returns-clause-field : goal.returns-clause-field
returns-clause-field c = λ around beside n shown here says text inst field range.
    let one : text.0 ≡ c.args.inst.now = (let q = sym text.1 ∙ inst in cc q) in
    let is : IsText c.args.inst.now around n = subst (λ i. IsText i around n) one text.2 in
    let ranged = c.range_given-range.ensures around shown ∙ sym (range-is c.args.inst.now around n is) in
    record {
      place_ = says.place;
      range_ = ranged;
      width_ =
          c.width_by.ensures range
          ∙ width-is n c.first_number.result c.range_given-range.result c.number-set.result (λ d. ap (λ xs. first_or xs d) (dims-are c.args.inst.now around n is) ∙ c.first_number.ensures around shown d) ranged
          (set-is n field (λ p default. c.first_related_decides.ensures n p default) ∙ sym (c.number-set.ensures n here));
      side_ = c.side_of.ensures n here;
    }
