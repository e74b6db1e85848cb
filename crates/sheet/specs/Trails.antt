-- The arcs that links lead over, on any table.
use Rattle.std.specs.Prelude.{ℕ, zero, suc, ◌-◌, Bool, cond, ◌&&◌, List, [], ◌∷◌, reverse, length, Some, None, Ok, Err, Option, Result, ◌==◌, nat_lt, slice_index_or}
use Rattle.measure.specs.Rows.{on_some}
use Rattle.sheet.specs.declared.line.Line.{Line}
use Rattle.sheet.specs.declared.link.Link.{Link}
use Rattle.sheet.specs.declared.link.Way.{Way}
use Rattle.sheet.specs.declared.link.Way.TheVariants.{Back, Fore}
use Rattle.sheet.specs.declared.refusals.TraceRefusal.{TraceRefusal}
use Rattle.sheet.specs.declared.refusals.TraceRefusal.TheVariants.{BrokenLink}
use Rattle.sheet.specs.Lines.{past_line}

-- where a link leads: nowhere, to a line over an arc, or it cannot be followed
abbrev pub Leads : Type 0
Leads = Result (Option Link) TraceRefusal

abbrev pub ends : Leads
ends = Ok None

abbrev pub over : ℕ → ℕ → Leads
over a j = Ok (Some (record { arc = a; line = j }))

abbrev pub broken : Leads
broken = Err BrokenLink

-- the link over arc a to line j: both marks say that there is none, and one mark alone, an arc above 1,024 or a line on the wrong side is refused
abbrev pub link_of : ℕ → ℕ → Bool → Leads
link_of a j onward = cond (a == 1024 && j == 4096) ends (cond (nat_lt a 1024 && onward) (over a j) broken)

abbrev pub back_link : List Line → ℕ → Leads
back_link ls i = let l = slice_index_or ls i past_line in cond (nat_lt i (length ls)) (link_of l.back_arc l.back_line (nat_lt l.back_line i)) broken

abbrev pub fore_link : List Line → ℕ → Leads
fore_link ls i = let l = slice_index_or ls i past_line in cond (nat_lt i (length ls)) (link_of l.fore_arc l.fore_line (nat_lt i l.fore_line)) broken

abbrev pub link_at : Way → List Line → ℕ → Leads
link_at Back ls i = back_link ls i
link_at Fore ls i = fore_link ls i

-- the arcs that the links from line i lead over, as they come, None where one cannot be followed; at most fuel of them
module _ (link : ℕ → Leads) where
  abbrev pub walk_step : (ℕ → Option (List ℕ)) → Leads → Option (List ℕ)
  walk_step go (Ok None) = Some []
  walk_step go (Ok (Some l)) = on_some (λ es. l.arc ∷ es) (go l.line)
  walk_step go (Err e) = None

  abbrev pub walk : ℕ → ℕ → Option (List ℕ)
  walk zero i = None
  walk (suc fuel) i = walk_step (λ j. walk fuel j) (link i)

-- how many lines there are on the way: back links fall, fore links rise and end within the table
abbrev pub lines_left : Way → List Line → ℕ → ℕ
lines_left Back ls i = i
lines_left Fore ls i = length ls - i

-- so many steps are enough
abbrev pub walked : Way → List Line → ℕ → Option (List ℕ)
walked way ls i = walk (link_at way ls) (suc (lines_left way ls i)) i

-- the arc of the last back link comes first
abbrev pub back_arcs : List Line → ℕ → Option (List ℕ)
back_arcs ls i = on_some reverse (walked Back ls i)

abbrev pub fore_arcs : List Line → ℕ → Option (List ℕ)
fore_arcs ls i = walked Fore ls i
