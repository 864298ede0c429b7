-- A block with wait states has the words of the one without.
use Rattle.std.proofs.Common.{ℕ}
use Rattle.rb_model.specs.declared.block.Block.{Block}
use Rattle.rb_model.specs.Apart.{IsApart, IsNamedIn, IsWordAt, WordIsApart}
use Rattle.rb_model.proofs.Eachs.{Each-weaker}
use Rattle.rdl_rules.specs.Waits.{with_waits}

pub waiting-apart : (b : Block) (n : ℕ) → IsApart b → IsApart (with_waits n b)
waiting-apart b n a = record {
  words = λ k w at.
      let x = a.words k w at in
      record {
        register = x.register;
        of_register = x.of_register;
        named = Each-weaker (IsNamedIn b x.register) (IsNamedIn (with_waits n b) x.register) (λ s h. record { view = h.view; of_view = h.of_view; name = h.name; of_name = h.of_name; of_path = h.of_path }) w.slots x.named;
        slots_apart = x.slots_apart;
        few_words = x.few_words;
        short_path = x.short_path;
      };
  addresses = a.addresses;
}
