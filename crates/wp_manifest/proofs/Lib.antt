pub mod EditLemmas
pub mod HeadLemmas
pub mod OpeningLemmas
pub mod InstallLemmas
pub mod LawLemmas
pub mod RoomLemmas
