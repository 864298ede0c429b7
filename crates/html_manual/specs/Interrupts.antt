-- The table of interrupts: for each output the fields that count for it, and the fields whose input it is.
use Rattle.std.specs.Prelude.{ℕ, ◌==◌, Bool, false, cond, List, [], ◌++◌, codes, filter, flat_map, get_or, length, map, Option, None, Some, slice_get}
use Rattle.std.specs.List.{enumerate_from, list_any, range_with_len}
use Rattle.std.specs.Option.{option_map_or}
use Rattle.rb_model.specs.declared.block.Block.{Block}
use Rattle.rb_model.specs.declared.block.Field.{Field}
use Rattle.rb_model.specs.declared.block.Reg.{Reg}
use Rattle.rb_model.specs.declared.kinds.Feed.{Feed}
use Rattle.rb_model.specs.declared.kinds.Feed.TheVariants as feed
use Rattle.rb_model.specs.declared.kinds.Mask.{Mask}
use Rattle.rb_model.specs.declared.kinds.Mask.TheVariants as mask
use Rattle.rb_model.specs.declared.kinds.RefItem.{RefItem}
use Rattle.rb_model.specs.declared.kinds.RefItem.TheVariants as item
use Rattle.rb_model.specs.Items.{is_interrupt, is_on}
use Rattle.html_text.specs.Tags.{code}
use Rattle.html_manual.specs.declared.tables.Tables.{Tables}
use Rattle.manual_words.specs.Names.{Sight, field_item, item_text, reg_item}

-- Numbers of fields, in order, for each register that they have to do with.

abbrev pub is_for : (Field → Option ℕ) → ℕ → ℕ × Field → Bool
is_for place r f = option_map_or (λ k. k == r) (place f.1) false

abbrev pub filed_at : (Field → Option ℕ) → List Field → ℕ → List ℕ
filed_at place fs r = map (λ f. f.0) (filter (is_for place r) (enumerate_from 0 fs))

abbrev pub filed : (Field → Option ℕ) → Block → List (List ℕ)
filed place b = map (filed_at place b.fields) (range_with_len 0 (length b.regs))

-- the register whose interrupt a field counts for
abbrev pub counts_for : Field → Option ℕ
counts_for f = cond (is_interrupt f.latch) (Some f.reg) None

abbrev pub intr_of : RefItem → Option ℕ
intr_of (item.Field k) = None
intr_of (item.Signal k) = None
intr_of (item.Anded k) = None
intr_of (item.Ored k) = None
intr_of (item.Xored k) = None
intr_of (item.IncrThreshold k) = None
intr_of (item.DecrThreshold k) = None
intr_of (item.Overflow k) = None
intr_of (item.Underflow k) = None
intr_of (item.SwMod k) = None
intr_of (item.SwAcc k) = None
intr_of (item.Intr k) = Some k
intr_of (item.Halt k) = None

abbrev pub halt_of : RefItem → Option ℕ
halt_of (item.Field k) = None
halt_of (item.Signal k) = None
halt_of (item.Anded k) = None
halt_of (item.Ored k) = None
halt_of (item.Xored k) = None
halt_of (item.IncrThreshold k) = None
halt_of (item.DecrThreshold k) = None
halt_of (item.Overflow k) = None
halt_of (item.Underflow k) = None
halt_of (item.SwMod k) = None
halt_of (item.SwAcc k) = None
halt_of (item.Intr k) = None
halt_of (item.Halt k) = Some k

-- the register whose interrupt, or halt, output is a field's input
abbrev pub fed_by : (RefItem → Option ℕ) → Feed → Option ℕ
fed_by of feed.Off = None
fed_by of feed.Pin = None
fed_by of (feed.Item i) = of i

abbrev pub uses_intr : Field → Option ℕ
uses_intr f = fed_by intr_of f.source

abbrev pub uses_halt : Field → Option ℕ
uses_halt f = fed_by halt_of f.source

abbrev pub tables : Block → Tables
tables b = record { counted = filed counts_for b; intr_users = filed uses_intr b; halt_users = filed uses_halt b }

-- Lines.

abbrev pub mask_item : Sight → (word : List ℕ) → RefItem → List ℕ
mask_item s word i = codes " where " ++ item_text s i ++ word

-- where a field's bits count
abbrev pub where_text : Sight → Mask → List ℕ
where_text s mask.Off = []
where_text s (mask.Enable i) = mask_item s (codes " is 1") i
where_text s (mask.Mask i) = mask_item s (codes " is 0") i

abbrev pub counted_text : Sight → Mask → ℕ → List ℕ
counted_text s m k = codes "<li>" ++ field_item s k [] ++ where_text s m ++ codes "</li>"

abbrev pub intr_line : Sight → ℕ → Option Field → List ℕ
intr_line s k None = []
intr_line s k (Some f) = counted_text s f.enable k

abbrev pub halt_line : Sight → ℕ → Option Field → List ℕ
halt_line s k None = []
halt_line s k (Some f) = cond (is_on f.halt) (counted_text s f.halt k) []

abbrev pub intr_field : Sight → ℕ → List ℕ
intr_field s k = intr_line s k (slice_get s.block.fields k)

abbrev pub halt_field : Sight → ℕ → List ℕ
halt_field s k = halt_line s k (slice_get s.block.fields k)

abbrev pub user_line : Sight → ℕ → List ℕ
user_line s k = codes "<li>input of " ++ field_item s k [] ++ codes "</li>"

-- Rows.

-- what raises an output
abbrev pub raised_list : (line : ℕ → List ℕ) → List ℕ → List ℕ
raised_list line ks = codes "<ul>" ++ flat_map line ks ++ codes "</ul>"

-- what an output leads to: its pin, and the fields whose input it is
abbrev pub pin_line : (role path : List ℕ) → List ℕ
pin_line role path = codes "<li>pin " ++ code (role ++ path) ++ codes "</li>"

abbrev pub leads_list : Sight → (role path : List ℕ) → List ℕ → List ℕ
leads_list s role path ks = codes "<ul>" ++ pin_line role path ++ flat_map (user_line s) ks ++ codes "</ul>"

abbrev pub output_name : Sight → ℕ → (property : List ℕ) → List ℕ
output_name s r property = codes "<tr><td class=\"f\">" ++ reg_item s r property ++ codes "</td><td>"

abbrev pub intr_row : Sight → Tables → ℕ → List ℕ → List ℕ
intr_row s t r path = output_name s r (codes "-&gt;intr") ++ raised_list (intr_field s) (get_or t.counted r []) ++ codes "</td><td>"
    ++ leads_list s (codes "intr$") path (get_or t.intr_users r []) ++ codes "</td></tr>\n"

abbrev pub halt_row : Sight → Tables → ℕ → List ℕ → List ℕ
halt_row s t r path = output_name s r (codes "-&gt;halt") ++ raised_list (halt_field s) (get_or t.counted r []) ++ codes "</td><td>"
    ++ leads_list s (codes "halt$") path (get_or t.halt_users r []) ++ codes "</td></tr>\n"

abbrev pub if_intr : Sight → Tables → ℕ × Reg → List ℕ
if_intr s t r = cond r.1.intr (intr_row s t r.0 r.1.path) []

abbrev pub if_halt : Sight → Tables → ℕ × Reg → List ℕ
if_halt s t r = cond r.1.halt (halt_row s t r.0 r.1.path) []

abbrev pub output_rows : Sight → Tables → ℕ × Reg → List ℕ
output_rows s t r = if_intr s t r ++ if_halt s t r

abbrev pub all_rows : Sight → Tables → List ℕ
all_rows s t = flat_map (output_rows s t) (enumerate_from 0 s.block.regs)

abbrev pub interrupts_head : List ℕ
interrupts_head = codes "<h2>Interrupts</h2>\n<div class=\"wide\">\n<table>\n<tr><th scope=\"col\">Output</th><th scope=\"col\">Is 1 where a bit is 1 of</th><th scope=\"col\">Leads to</th></tr>\n"

abbrev pub interrupts_table : Sight → Tables → List ℕ
interrupts_table s t = interrupts_head ++ all_rows s t ++ codes "</table>\n</div>\n"

-- nothing where no register has an interrupt
abbrev pub interrupts : Sight → Tables → List ℕ
interrupts s t = cond (list_any (λ r. r.intr) s.block.regs) (interrupts_table s t) []
