-- The words that software reads and writes (this project's rule: a word is what the bus accesses at once).
use Rattle.std.specs.Prelude.{ℕ, ◌+◌, ◌-◌, ◌*◌, ◌/◌, min, max, Bool, not, ◌&&◌, List, [], ◌∷◌, ◌++◌, nat_lt, nat_le, ◌==◌, map, flat_map, filter}
use Rattle.std.specs.List.{list_any}
use Rattle.std.specs.List.Sorted.{IsPermutation, IsStrictlyIncreasing}
use Rattle.rdl_props.specs.declared.prop.Prop.TheVariants as prop
use Rattle.rdl_values.specs.Uses.{when}
use Rattle.rdl_values.specs.Instances.{Instance, upto}
use Rattle.rdl_layers.specs.Phase4.{number_at}
use Rattle.rdl_addr.specs.Bits.{Bits, bits_of}
use Rattle.rdl_addr.specs.Layout.{Placed}
use Rattle.rdl_addr.specs.Rules.{is_read_only, is_write_only}
use Rattle.rb_model.specs.declared.block.Slot.{Slot}
use Rattle.rb_model.specs.declared.block.Word.{Word}
use Rattle.rdl_rules.specs.Numbers.{Numbered, numbered}

-- the part of a view of a number that lies in the width bits from a base on
abbrev pub slot : ℕ → ℕ → ℕ → Bits → List Slot
slot view base width b = when (nat_lt b.low (base + width) && nat_le base b.high) (record {
  view = view;
  low = max base b.low - base;
  from = max base b.low - b.low;
  bits = min (base + width - 1) b.high + 1 - max base b.low;
})

-- the parts of views, which are numbered from this one on
abbrev pub slots_from : ℕ → ℕ → ℕ → List Bits → List Slot
slots_from view base width [] = []
slots_from view base width (b ∷ bs) = slot view base width b ++ slots_from (view + 1) base width bs

-- word k of a register
abbrev pub word_of : Numbered Placed → ℕ → Word
word_of r k = record {
  address = r.register.address + k * (number_at r.register.node prop.Accesswidth / 8);
  width = number_at r.register.node prop.Accesswidth;
  reg = r.number;
  number = k;
  slots = slots_from r.first_view (k * number_at r.register.node prop.Accesswidth) (number_at r.register.node prop.Accesswidth) (bits_of r.register.node);
}

abbrev pub words_of : Numbered Placed → List Word
words_of r = map (word_of r) (upto (number_at r.register.node prop.Regwidth / number_at r.register.node prop.Accesswidth))

-- a register before or behind it stands at its address and passes the test
abbrev pub shares_with : (Instance → Bool) → List Placed → Placed → Bool
shares_with test ps p = list_any (λ q. q.address == p.address && test q.node) ps

-- the words of all registers but those that are masked: that pass the first test, and share their address with one that
-- passes the second
abbrev pub words_but : (Instance → Bool) → (Instance → Bool) → List Placed → List Word
words_but test other ps = flat_map words_of (filter (λ r. not (test r.register.node && shares_with other ps r.register)) (numbered (λ p. p.node) ps))

-- reads don't reach a write-only register at the address of a read-only one
abbrev pub read_words : List Placed → List Word
read_words ps = words_but is_write_only is_read_only ps

-- writes don't reach a read-only register at the address of a write-only one
abbrev pub write_words : List Placed → List Word
write_words ps = words_but is_read_only is_write_only ps

-- The same words, by address.
pub record AreByAddress (words ordered : List Word) : Type 0 where
  pub same : IsPermutation words ordered
  pub rising : IsStrictlyIncreasing (map (λ w. w.address) ordered)
