-- The first example, examples/one.rdl: one register with one field, which software reads and writes.
use Rattle.std.specs.Prelude.{ℕ, List, codes}

abbrev pub first_example : List ℕ
first_example = codes "addrmap one { reg { field { sw=rw; hw=r; } f[32] = 32'h5; } a @0x0; };\n"
