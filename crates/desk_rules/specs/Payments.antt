-- The payments of a run: its calls, grouped. Definitions only.
use Rattle.std.specs.Prelude.{Bool, true, false, ◌||◌, List, [], ◌∷◌, ◌++◌, get_or, set, replicate, eqb}
use Rattle.basics.specs.Choice.{pick}
use Rattle.zvt_rules.specs.Reading.{Reading, got, refused}
use Rattle.zvt_rules.specs.Message.{Message, read_of}
use Rattle.desk_rules.specs.Numbers.{lane_count}
use Rattle.desk_rules.specs.Course.{pair_is, Call, opening, message, lost, lane_of}

-- ---- the payments of a run: an opening, and the calls of its lane up to its end

-- the ended payments in the order in which they ended, and the calls of each lane's open payment; judged by the calls alone
pub record Payments : Type 0 where
  pub ended : List (List Call)
  pub ongoing : List (List Call)

-- the calls that end a payment: the messages 84 xx, 06 1E and 06 0F, and a lost link
unfoldable pub ends_by : Reading Message → Bool
ends_by (refused f) = false
ends_by (got m) =
    eqb m.class 0x84 || (pair_is m.class m.instruction 0x06 0x1E || pair_is m.class m.instruction 0x06 0x0F)

unfoldable pub ends : Call → Bool
ends (opening i o) = false
ends (message i s) = ends_by (read_of s)
ends (lost i) = true

-- a call belongs to its lane's payment, which it may end
unfoldable pub with_call : Payments → Call → Payments
with_call p c =
    let i = lane_of c in
    let calls = get_or p.ongoing i [] ++ (c ∷ []) in
    pick (ends c) (record { ended = p.ended ++ (calls ∷ []); ongoing = set p.ongoing i [] })
    (record { ended = p.ended; ongoing = set p.ongoing i calls })

unfoldable pub payments_from : Payments → List Call → Payments
payments_from p [] = p
payments_from p (c ∷ cs) = payments_from (with_call p c) cs

unfoldable pub payments_of : List Call → Payments
payments_of cs = payments_from (record { ended = []; ongoing = replicate lane_count [] }) cs

unfoldable pub flattened : List (List Call) → List Call
flattened [] = []
flattened (cs ∷ css) = cs ++ flattened css

-- The third demand: "each payment's calls in their own order, first the ended payments one after another in the order in which they
-- ended, then the calls of each payment still open, lane by lane"
unfoldable pub one_by_one : List Call → List Call
one_by_one cs = flattened (payments_of cs).ended ++ flattened (payments_of cs).ongoing
