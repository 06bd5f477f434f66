pub mod Chosen
pub mod Ends
pub mod Looking
pub mod Reports
pub mod Statuses
