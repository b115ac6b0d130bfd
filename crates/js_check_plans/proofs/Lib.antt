mod Plans
mod Options
mod Placing
mod RoomLemmas
mod DutyLemmas
mod LineLemmas
mod CountLemmas
mod PathLemmas
