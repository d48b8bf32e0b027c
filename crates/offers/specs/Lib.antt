pub mod OffersInner
