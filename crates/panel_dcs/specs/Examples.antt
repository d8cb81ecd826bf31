-- Transfers that were worked out by hand: the bytes that are sent for two pixels, upright and by a quarter, and
-- what a controller's memory is after them.
use Rattle.std.specs.Prelude.{◌≡◌, ℕ, pos, ◌++◌, List, [], ◌∷◌}
use Rattle.std.specs.List.{range_with_len, flat_map}
use Rattle.gui_base.specs.declared.color.Rgb565.{Rgb565}
use Rattle.gui_color.specs.Buffer.{Buffer}
use Rattle.panel_dcs.specs.Controller.{opened, fed, command_byte, data_bytes, unwritten}
use Rattle.panel_dcs.specs.Polls.{window_of, rows_of, next_row}
use Rattle.panel_dcs.specs.Transfers.{start_bytes, row_bytes}
use Rattle.panel_dcs.specs.Turning.{Turned}
use Rattle.panel_dcs.specs.declared.chip.Sent.{Sent}
use Rattle.panel_dcs.specs.declared.turn.Turn.{Turn}
use Rattle.panel_dcs.specs.declared.turn.Turn.TheVariants.{Upright, Quarter}

abbrev color : ℕ → Rgb565
color n = record { 0 = n }

-- a panel of 4 by 2 pixels
abbrev four_by_two : Turn → Turned
four_by_two turn = record { turn = turn; width = 4; height = 2 }

-- red at column 1 of line 0, and green beside it
abbrev red_and_green : Buffer
red_and_green = record {
  area = record { x1 = pos 1; y1 = pos 0; x2 = pos 2; y2 = pos 0 };
  pixels = color 63488 ∷ color 2016 ∷ [];
  limit = 2;
}

-- all that a transfer sends: its start, and each row of it
abbrev transfer_bytes : Turned → Buffer → List Sent
transfer_bytes t buf =
    start_bytes (window_of t buf.area)
    ++ flat_map (λ row. row_bytes (next_row t buf row)) (range_with_len 0 (rows_of t buf.area))

-- columns 1 and 2 of page 0
abbrev two_columns : List Sent
two_columns =
    command_byte 42 ∷ data_bytes (0 ∷ 1 ∷ 0 ∷ 2 ∷ [])
    ++ command_byte 43 ∷ data_bytes (0 ∷ 0 ∷ 0 ∷ 0 ∷ [])
    ++ command_byte 44 ∷ data_bytes (248 ∷ 0 ∷ 7 ∷ 224 ∷ [])

-- column 1 of pages 1 and 2
abbrev two_pages : List Sent
two_pages =
    command_byte 42 ∷ data_bytes (0 ∷ 1 ∷ 0 ∷ 1 ∷ [])
    ++ command_byte 43 ∷ data_bytes (0 ∷ 1 ∷ 0 ∷ 2 ∷ [])
    ++ command_byte 44 ∷ data_bytes (248 ∷ 0 ∷ 7 ∷ 224 ∷ [])

-- a colour over the end of the window, one whose second byte is missing, and a fifth byte of the columns
abbrev strays : List Sent
strays =
    command_byte 42 ∷ data_bytes (0 ∷ 0 ∷ 0 ∷ 0 ∷ 9 ∷ [])
    ++ command_byte 43 ∷ data_bytes (0 ∷ 0 ∷ 0 ∷ 0 ∷ [])
    ++ command_byte 44 ∷ data_bytes (0 ∷ 1 ∷ 0 ∷ 2 ∷ 7 ∷ [])

pub record TransfersAreWorked : Type 0 where
  pub sends_upright : transfer_bytes (four_by_two Upright) red_and_green ≡ two_columns
  pub sends_quarter : transfer_bytes (four_by_two Quarter) red_and_green ≡ two_pages
  pub columns : (fed (opened 4 2) two_columns).memory
      ≡ unwritten ∷ color 63488 ∷ color 2016 ∷ unwritten ∷ unwritten ∷ unwritten ∷ unwritten ∷ unwritten ∷ []
  pub pages : (fed (opened 2 4) two_pages).memory
      ≡ unwritten ∷ unwritten ∷ unwritten ∷ color 63488 ∷ unwritten ∷ color 2016 ∷ unwritten ∷ unwritten ∷ []
  pub astray : (fed (opened 2 1) strays).memory ≡ color 1 ∷ unwritten ∷ []
  pub astray_keeps : (fed (opened 2 1) strays).kept ≡ 7 ∷ []
