-- A delivery of a schedule.
use Rattle.std.specs.Prelude.{ℕ, List, Option, Some}
use Rattle.sspi_play.specs.declared.played.Delivery.{Delivery}
use Rattle.sspi_scenario.specs.Hex.{hex_of}
use Rattle.sspi_scenario.specs.Lines.{before_space, after_space}
use Rattle.sspi_scenario.specs.Optional.{◌>>=◌}
use Rattle.sspi_scenario.specs.Words.{end_of}

-- its end, a space, and what is delivered; if that is nothing, the space may be missing
unfoldable pub delivery_of : List ℕ → Option Delivery
delivery_of value = do
  end ← end_of (before_space value)
  octets ← hex_of (after_space value)
  Some (record { to = end; bytes = octets })
